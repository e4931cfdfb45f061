use Rattle.std.proofs.Common.{replicate, ap, ◌∙◌, arith}
use Rattle.std.proofs.lemmas.List.{take-replicate}
use Rattle.archive.proofs.place.Place.new.Goals as goal

pub returns : goal.returns
returns c =
    take-replicate c.min.result 1024 0 (omega (arith, c.min.ensures)) ∙ ap (λ n. replicate n 0) c.min.ensures
