use Rattle.std.proofs.Common.{ℕ, get_or, ◌≡◌, ◌+◌, ◌≤◌, sym, ap, ◌∙◌, subst, arith}
use Rattle.tables.specs.Codewords.{bit}
use Rattle.stores.specs.Calls.{stands_answer}
use Rattle.stores.specs.Model.{Store}
use Rattle.sets.specs.Meaning.{make}
use Rattle.sets.proofs.Parities.{Changing, start, change_more, changed_is, put_own, own_size, own_stands, same_stands, tally, tally_more, bit_small, puts_is}
use Rattle.units.proofs.Numbered.{number_at}
use Rattle.sets.proofs.changing.put_changes.Goals as goal

pub loop-parity-init : goal.loop-parity-init
loop-parity-init g c = (
  start _ _ _,
  (
    λ n e. let z : n ≡ 0 = omega arith in
        let t : tally (stands_answer (g.S.UnitStore.model c.put_standing-put.new.store)) n ≡ 0 = ap (tally (stands_answer (g.S.UnitStore.model c.put_standing-put.new.store))) z in
        omega arith,
    omega (arith, c.put_standing-put.ensures.count, bit_small (stands_answer (g.S.UnitStore.model c.args.store.now) c.args.unit.number)),
  ),
)

pub change_parity-put-requires : goal.change_parity-put-requires
change_parity-put-requires g c = record {
  size = c.requires.size ∙ (sym (c.loop-parity.invariant.0.size ∙ ap (λ (z : Store). z.size) c.put_standing-put.ensures.store ∙ own_size (make g.V.Scheme c.args.scheme.now) (g.S.UnitStore.model c.args.store.now) c.args.unit.number c.args.unit.low c.requires.data c.args.bytes.now c.args.difference.now.bytes.now));
}

pub loop-parity-preserved : goal.loop-parity-preserved
loop-parity-preserved g c =
    let m = make g.V.Scheme c.args.scheme.now in
    let s = g.S.UnitStore.model c.put_standing-put.new.store in
    let t = g.S.UnitStore.model c.loop-parity.store in
    let n = c.loop-parity.parity-index in
    let w = (get_or c.parities-parity-items.result n c.parity-item.result).number in
    let at : w ≡ 11 + n = number_at 11 c.parities-parity-items.result 4 n c.parity-item.result c.parities-parity-items.ensures (omega arith) in
    let low : 11 ≤ w = omega (arith, at) in
    let next : w + 1 ≡ 11 + (n + 1) = omega (arith, at) in
    let same : stands_answer t w ≡ stands_answer s w = same_stands s t w (c.loop-parity.invariant.0.above w (omega arith)) in (
      subst (λ (k : ℕ). Changing m s c.args.difference.now.bytes.now k (g.S.UnitStore.model c.change_parity-put.new.store)) next
          (change_more m s c.args.difference.now.bytes.now w low t (subst (λ (k : ℕ). Changing m s c.args.difference.now.bytes.now k t) (sym at) c.loop-parity.invariant.0) _ c.change_parity-put.ensures.store),
      (
        λ k e. tally_more (stands_answer s) w _ _ _ low (c.change_parity-put.ensures.count ∙ ap bit same) (λ j f. c.loop-parity.invariant.1.0 j (omega (arith, at, f))) k (omega (arith, at, e)),
        omega (arith, c.loop-parity.invariant.1.1, c.change_parity-put.ensures.count, bit_small (stands_answer t w)),
      ),
    )

pub returns : goal.returns
returns g c =
    let m = make g.V.Scheme c.args.scheme.now in
    let s = g.S.UnitStore.model c.args.store.now in
    let u = c.args.unit.number in
    let new = c.args.bytes.now in
    let d = c.args.difference.now.bytes.now in
    let own : g.S.UnitStore.model c.put_standing-put.new.store ≡ put_own s u new = c.put_standing-put.ensures.store in
    let all : Changing m (put_own s u new) d (11 + c.loop-parity.parity-index) (g.S.UnitStore.model c.loop-parity.store) =
    subst (λ (z : Store). Changing m z d (11 + c.loop-parity.parity-index) (g.S.UnitStore.model c.loop-parity.store)) own c.loop-parity.invariant.0 in
    let end : (11 + c.loop-parity.parity-index) ≡ 15 = omega (arith, c.loop-parity-test.false, c.loop-parity.auto.parity-index-end) in
    let counted = c.loop-parity.invariant.1.0 4 (omega (arith, end)) in
    let first = c.put_standing-put.ensures.count in
    record {
      store = changed_is m s u c.args.unit.low c.requires.data new d (11 + c.loop-parity.parity-index) _ (omega arith) all;
      count = counted ∙ ap (λ n. n + tally (stands_answer (g.S.UnitStore.model c.put_standing-put.new.store)) 4) first
          ∙ puts_is (stands_answer s) _ u (λ k h. ap (λ (z : Store). stands_answer z k) own ∙ own_stands m s u c.args.unit.low c.requires.data new d k h);
    }
