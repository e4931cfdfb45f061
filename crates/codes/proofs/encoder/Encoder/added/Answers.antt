use Rattle.std.proofs.Common.{ℕ, get_or, ap, ◌∙◌}
use Rattle.tables.specs.Multipliers.{entry}
use Rattle.codes.specs.Versions.{over, share}
use Rattle.codes.proofs.Listings.{no_tenth}
use Rattle.codes.proofs.encoder.Encoder.added.Goals as goal

pub returns : goal.returns
returns g c =
    let s = g.S.Symbol in
    let f = λ (k : ℕ). share s.zero s.sum s.times c.args.self.now.version (entry c.args.self.now.table) k (get_or c.args.a.now k s.zero) in
    c.added_without.ensures ∙ ap (λ js. over s.zero s.sum js f) (no_tenth c.args.self.now.version c.args.l)
