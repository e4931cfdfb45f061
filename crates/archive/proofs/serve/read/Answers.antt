use Rattle.std.proofs.Common.{◌≡◌, ◌-◌, eqb, List, length, take, refl, ap, ◌∙◌, arith, rules}
use borrow.Rule.Slice.PartMut.{mid_of, post_of}
use Rattle.std.proofs.lemmas.List.{take_at}
use Rattle.std.proofs.lemmas.Bool.{cond_both}
use Rattle.sets.specs.Calls.{refusal}
use Rattle.sets.specs.Calls.Answer.{Gave}
use Rattle.sets.specs.Calls.Call.{Read}
use Rattle.sets.specs.Meaning.{view}
use Rattle.sets.specs.Sets.{View, status, answer, after}
use Rattle.archive.specs.Logs.{held}
use Rattle.archive.proofs.serve.read.Goals as goal

-- a read alters nothing
unaltered : (v : View) (u : _) (place : List _) → v ≡ after v (Read u place)
unaltered v u place = cond_both (eqb (refusal (status v) (Read u place)) 0) v v (λ x. v ≡ x) (λ _. refl) (λ _. refl)

pub returns-in-Ok : goal.returns-in-Ok
returns-in-Ok g c =
    let v = view g.V.Scheme g.S.UnitStore c.args.set.now in
    let p = c.args.place in
    let size : p.len - 0 ≡ p.len = omega arith in
    let was : mid_of 0 (p.len - 0) p.bytes ≡ held p = ap (λ k. take k p.bytes) size in
    let read : length c.read.new.place ≡ p.len = search rules in
    record {
      typed = tt;
      said = ap (Gave c.in-Ok.n) (take_at c.read.new.place (post_of 0 (p.len - 0) p.bytes) p.len read) ∙ c.in-Ok.ensures.answer ∙ ap (λ xs. answer v (Read c.args.u xs)) was;
      moved = unaltered v c.args.u (held p);
    }

pub returns-in-Err : goal.returns-in-Err
returns-in-Err g c =
    let v = view g.V.Scheme g.S.UnitStore c.args.set.now in
    let p = c.args.place in
    let size : p.len - 0 ≡ p.len = omega arith in
    let was : mid_of 0 (p.len - 0) p.bytes ≡ held p = ap (λ k. take k p.bytes) size in
    record { typed = tt; said = c.in-Err.ensures.answer ∙ ap (λ xs. answer v (Read c.args.u xs)) was; moved = unaltered v c.args.u (held p) }
