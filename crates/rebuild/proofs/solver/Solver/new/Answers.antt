use Rattle.std.proofs.Common.{◌≡◌, ℕ, ◌≤◌, Bool, false, get_or, sym, ap, ◌∙◌, subst}
use Rattle.tables.specs.Codewords.{Sound}
use Rattle.tables.specs.Multipliers.{entry}
use Rattle.tables.specs.declared.table.Table.{Table}
use Rattle.rebuild.specs.Plans.{stands_in}
use Rattle.rebuild.specs.Tableaus.{Solved}
use Rattle.rebuild.proofs.Planning.{lowest_ten}
use Rattle.rebuild.proofs.solver.Solver.new.Goals as goal

pub solve-tableau-requires : goal.solve-tableau-requires
solve-tableau-requires g c = (
  subst (λ (t : Table). Sound (entry t)) (sym (ap (λ e. e.table) c.encoder-encoder.ensures)) (g.V.Scheme.sound c.args.scheme.now),
  lowest_ten (stands_in c.args.standing.now) (subst (λ (n : ℕ). 10 ≤ n) c.count_standing.ensures c.if-count_standing-lt10.false)
      (λ p. get_or c.lowest-chosen.result p false) c.lowest-chosen.ensures,
)

pub invariant_of-result : goal.invariant_of-result
invariant_of-result g c =
    let same : (p : ℕ) → get_or c.solve-tableau.result.chosen p false ≡ get_or c.lowest-chosen.result p false =
    λ p. ap (λ xs. get_or xs p false) c.solve-tableau.ensures.chosen in record {
      prepared =
          ∣ record {
            fair = record {
              sound = subst (λ (t : Table). Sound (entry t)) (sym (ap (λ e. e.table) c.encoder-encoder.ensures)) (g.V.Scheme.sound c.args.scheme.now);
              solved = subst (λ (ch : ℕ → Bool). Solved (entry c.encoder-encoder.result.table) ch c.solve-tableau.result.rows c.solve-tableau.result.basis) (λ i p. sym (same p) i) c.solve-tableau.ensures.solved;
            };
            ten = subst (λ (n : ℕ). 10 ≤ n) c.count_standing.ensures c.if-count_standing-lt10.false;
            chosen_is = λ p h. same p ∙ c.lowest-chosen.ensures p h;
          } ∣₁;
    }
