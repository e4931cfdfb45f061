use Rattle.std.proofs.Common.{◌≡◌, ◌*◌, ◌≤◌, ℕ, Bool, List, true, length, sym, ap, subst, ◌∙◌, arith, rules}
use Rattle.std.proofs.lemmas.Bool.{eq-eqb, le-leb}
use Rattle.tables.specs.Codewords.{count}
use Rattle.rebuild.specs.Plans.{stands_in}
use Rattle.stores.specs.Calls.{stands_answer}
use Rattle.units.specs.Numbers.{is_data}
use Rattle.stores.specs.Model.{Store}
use Rattle.sets.specs.Calls.{pattern, ten_stand}
use Rattle.sets.specs.Meaning.{view, gathered_in}
use Rattle.sets.specs.Sets.{status, changed, changed_store}
use Rattle.sets.proofs.Given.{change_given}
use Rattle.sets.proofs.set.Set.change.Goals as goal

pub overflow_mul-difference : goal.overflow_mul-difference
overflow_mul-difference g c = omega (arith, (g.S.UnitStore.sound c.args.self.now.store).small, c.size-h.ensures)

pub slice_bounds-room-end : goal.slice_bounds-room-end
slice_bounds-room-end g c = let within : 20 * c.size-h.result ≤ 10240 = omega (arith, (g.S.UnitStore.sound c.args.self.now.store).small, c.size-h.ensures) in within

pub returns-clause-view : goal.returns-clause-view
returns-clause-view g c =
    let self = c.args.self.now in
    let v = view g.V.Scheme g.S.UnitStore self in
    let u = c.args.u in
    let new = c.args.bytes.now in
    let w = c.in_ok-unit.unit.number in
    let same : w ≡ u = search rules in
    let numbered : is_data u ≡ true = search rules in
    let long : length new ≡ 2 * v.store.size = search rules in
    let idle : v.under ≡ 0 = search rules in
    let counted : c.count_standing.result ≡ count 14 (stands_in (pattern (stands_answer v.store))) =
    c.count_standing.ensures ∙ ap (λ (st : List Bool). count 14 (stands_in st)) c.standing-stood.ensures in
    let ten : ten_stand (status v) ≡ true = le-leb 10 _ (subst (λ (n : ℕ). 10 ≤ n) counted c.if-count_standing-lt10.false) in
    let put = c.put_changes.ensures.store ∙ ap (changed_store v.make v.store w new) c.write_difference.ensures ∙ ap (λ k. changed v k new) same in
    ap (λ (s : Store). record { make = v.make; store = s; under = v.under; stood = v.stood; list = v.list; gathered = gathered_in s.size self.room self.rebuild }) put
    ∙ sym (change_given v u new numbered (eq-eqb (length new) (2 * v.store.size) long) (eq-eqb v.under 0 idle) ten)
