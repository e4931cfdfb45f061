use Rattle.std.proofs.Common.{ℕ, List, [], get_or, sym, ◌∙◌, arith, rules}
use Rattle.std.proofs.lemmas.List.{ext_get_or, length-map, get_or-map}
use Rattle.field.proofs.Arrays.{made_at}
use Rattle.sets.specs.Rebuilding.{column}
use Rattle.sets.proofs.rebuilding.byte_column.Goals as goal

pub returns-clause-value : goal.returns-clause-value
returns-clause-value c =
    let hs = c.args.room.now.halves in
    let i = c.args.i in
    let made = c.from_fn.ensures.items in
    let f : List ℕ → ℕ = λ half. get_or half i 0 in
    ext_get_or 0 c.from_fn.result (column hs i) (made.long ∙ sym (length-map hs f ∙ c.args.room.now.long))
    (λ k q.
    made_at _ _ _ (λ n. f (get_or hs n [])) 20 (λ n y r h e. search rules) made k 0 (omega (arith, made.long))
    ∙ sym (get_or-map f hs k [] 0 (omega (arith, made.long, c.args.room.now.long))))
