use Rattle.std.proofs.Common.{◌≡◌, ℕ, ◌<◌, get_or, ◌∙◌}
use base.Stored.{Coded-set}
use mathlib.Core.Logic.{∥∥₁_elim}
use Rattle.rebuild.proofs.Combining.{first_solved, second_solved}
use Rattle.rebuild.proofs.data.data_of.Goals as goal

pub returns : goal.returns
returns g c d e hd he fit k h =
    let s = g.S.Symbol in
    let 𝓢 = g.met.S.Symbol.space in
    let a : (j : ℕ) → j < 10 → get_or c.column-a.result j s.zero ≡ d j =
    λ j q. c.column-a.ensures j q
    ∙ ∥∥₁_elim c.requires (Coded-set g.row.S.coded _ _)
    (λ f. first_solved 𝓢 f.sound f.solved c.args.encoder.now.version _ _ d e hd he fit (λ p. get_or c.unmixed.result p s.zero) c.unmixed.ensures j q) in (
      a k h,
      c.column-b.ensures k h
          ∙ ∥∥₁_elim c.requires (Coded-set g.row.S.coded _ _)
          (λ f. second_solved 𝓢 f.sound f.solved c.args.encoder.now.version _ _ d e hd he fit (λ j. get_or c.column-a.result j s.zero)
          (λ p. get_or c.unburdened.result p s.zero) a c.unburdened.ensures k h),
    )
