use Rattle.std.proofs.Common.{◌≡◌, ℕ, ◌<◌, List, get_or, sym, subst, ⊎_elim, arith}
use lib.Bits.{bit_xor}
use Rattle.std.proofs.lemmas.Bool.{cases_eq}
use Rattle.field.specs.Arithmetic.{gmul}
use Rattle.codes.specs.Lists.{listed}
use Rattle.rebuild.specs.Gathered.{fetched_by}
use Rattle.rebuild.specs.Plans.{stands_in, Only}
use Rattle.sets.specs.Rebuilding.{column}
use Rattle.sets.proofs.Writing.{written_more}
use Rattle.sets.proofs.rebuilding.write_rebuilt.Goals as goal

pub loop-i-preserved : goal.loop-i-preserved
loop-i-preserved c =
    let hs = c.args.room.now.halves in
    let plan = c.args.plan.now in
    let list = listed c.args.list.now in
    let P : ℕ → ℕ × ℕ → Type 0 = λ i r. Only (λ x. x < 256) 0 bit_xor gmul plan.encoder.version plan.encoder.table (stands_in plan.standing) plan.unit.number (fetched_by 0 list (column hs i) 1) (fetched_by 0 list (column hs i) 2) r in
    let here : P c.loop-i.i c.rebuild_listed-x.result =
    subst (λ (xs : List ℕ). Only (λ x. x < 256) 0 bit_xor gmul plan.encoder.version plan.encoder.table (stands_in plan.standing) plan.unit.number (fetched_by 0 list xs 1) (fetched_by 0 list xs 2) c.rebuild_listed-x.result)
    c.byte_column-fetched.ensures.value c.rebuild_listed-x.ensures.only in (
      λ i q k. ⊎_elim
          (λ (e : i ≡ c.loop-i.i). subst (λ (z : ℕ). get_or (column hs z) k 0 < 256) (sym e) (subst (λ (xs : List ℕ). get_or xs k 0 < 256) c.byte_column-fetched.ensures.value (c.byte_column-fetched.ensures.bytes k)))
          (λ (e : i ≡ c.loop-i.i → ⊥). c.loop-i.invariant.0 i (omega arith) k)
          (cases_eq i c.loop-i.i),
      written_more P c.args.h c.loop-i.i c.loop-i.place _ _ (omega arith) (omega arith) here c.loop-i.invariant.1,
    )

pub returns : goal.returns
returns c = record {
  bytes = λ i q. c.loop-i.invariant.0 i (omega arith);
  only = λ i q. c.loop-i.invariant.1 i (omega arith);
}
