use Rattle.std.proofs.Common.{inl, inr}
use Rattle.field.specs.Products.{gmul_zero_l, gmul_zero_r}
use Rattle.field.proofs.mul.Goals as goal

pub returns-then-b-eq0 : goal.returns-then-b-eq0
returns-then-b-eq0 c =
    elim c.if-b-eq0.either [
      | inl e ↦ rw (e, gmul_zero_l)
      | inr e ↦ rw (e.1, gmul_zero_r)
    ]
