use Rattle.std.proofs.Common.{◌≡◌, ℕ, ◌+◌, ◌*◌, ◌<◌, length, get_or, set, ap, ◌∙◌, arith, length-set}
use Rattle.std.proofs.lemmas.List.Edits.{fill_by_more}
use Rattle.std.proofs.lemmas.List.FromFn.{fill_by_all}
use Rattle.stores.specs.Model.{Slot, holds, half_of}
use Rattle.stores.specs.Layout.{half_at, index_at}
use Rattle.stores.proofs.Hops.{alternate_laid}
use Rattle.stores.proofs.area.lay_alternate.Goals as goal

pub loop-i-preserved : goal.loop-i-preserved
loop-i-preserved c =
    let i : ℕ = c.loop-i.i in
    let unit = c.loop-i.unit in
    let s : Slot = holds c.args.first.now c.args.second.now in
    let f : ℕ → ℕ = λ p. get_or (half_of s (half_at 1 p)) (index_at 1 p) 0 in
    let a : get_or c.args.first.now i 0 ≡ f (2 * i) = alternate_laid 1 i s (omega arith) (omega arith) ∙ ap f (omega arith) in
    let b : get_or c.args.second.now i 0 ≡ f (2 * i + 1) = alternate_laid 2 i s (omega arith) (omega arith) in
    let first_in : (p : ℕ) → p < 2 * i + 1 → get_or (set unit (2 * i) (get_or c.args.first.now i 0)) p 0 ≡ f p =
    λ p l. ap (λ z. get_or (set unit (2 * i) z) p 0) a ∙ fill_by_more f unit (2 * i) 0 (omega arith) c.loop-i.invariant p l in
    λ p l.
    ap (λ z. get_or (set (set unit (2 * i) (get_or c.args.first.now i 0)) (2 * i + 1) z) p 0) b
    ∙ fill_by_more f (set unit (2 * i) (get_or c.args.first.now i 0)) (2 * i + 1) 0 (omega (arith, length-set unit (2 * i) (get_or c.args.first.now i 0))) first_in p (omega arith)

pub returns : goal.returns
returns c =
    fill_by_all (λ p. get_or (half_of (holds c.args.first.now c.args.second.now) (half_at 1 p)) (index_at 1 p) 0) c.loop-i.unit (2 * length c.args.first.now) 0 (omega arith)
    (λ p l. c.loop-i.invariant p (omega arith))
