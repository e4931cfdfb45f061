use Rattle.std.proofs.Common.{◌≡◌, ℕ, ◌≤◌, Bool, false, get_or, sym, ap, ◌∙◌, subst, rules}
use Rattle.tables.specs.Codewords.{Sound}
use Rattle.tables.specs.Multipliers.{entry}
use Rattle.tables.specs.declared.table.Table.{Table}
use Rattle.codes.specs.Lists.{fetch_list_of, is_short_for}
use Rattle.codes.specs.Versions.{Admits}
use Rattle.rebuild.specs.Plans.{stands_in, solved_at}
use Rattle.rebuild.specs.Tableaus.{Solved}
use Rattle.rebuild.proofs.Planning.{chosen_ten}
use Rattle.rebuild.proofs.plan.Plan.new.Goals as goal

pub solve-tableau-requires : goal.solve-tableau-requires
solve-tableau-requires g c =
    let s = c.args.scheme.now in (
      subst (λ (t : Table). Sound (entry t)) (sym (ap (λ e. e.table) c.encoder-encoder.ensures)) (g.V.Scheme.sound s),
      chosen_ten c.encoder-encoder.result.version (stands_in c.args.standing.now) c.position-position.result c.is_short-short.result c.is_short-short.ensures
          (subst (λ (n : ℕ). 10 ≤ n) c.count_standing.ensures c.if-count_standing-lt10.false)
          (λ p. get_or c.solved_positions-chosen.result p false) c.solved_positions-chosen.ensures,
    )

pub invariant_of-result : goal.invariant_of-result
invariant_of-result g c =
    let s = c.args.scheme.now in
    let e = c.encoder-encoder.result in
    let unit = c.in_ok-unit.unit in
    let stands = stands_in c.args.standing.now in
    let place = c.position-position.ensures.place in
    let number : unit.number ≡ c.args.u = search rules in
    let same : (p : ℕ) → get_or c.solve-tableau.result.chosen p false ≡ get_or c.solved_positions-chosen.result p false =
    λ p. ap (λ xs. get_or xs p false) c.solve-tableau.ensures.chosen in record {
      planned =
          ∣ record {
            fair = record {
              sound = subst (λ (t : Table). Sound (entry t)) (sym (ap (λ x. x.table) c.encoder-encoder.ensures)) (g.V.Scheme.sound s);
              solved = subst (λ (ch : ℕ → Bool). Solved (entry e.table) ch c.solve-tableau.result.rows c.solve-tableau.result.basis) (λ i p. sym (same p) i) c.solve-tableau.ensures.solved;
            };
            admits = subst (λ (t : Table). Admits e.version (entry t)) (sym (ap (λ x. x.table) c.encoder-encoder.ensures))
                (subst (λ v. Admits v (entry (g.V.Scheme.table s))) (sym (ap (λ x. x.version) c.encoder-encoder.ensures)) (g.met.V.Scheme.admits s));
            low = unit.low;
            high = unit.high;
            missing = ap stands (sym place) ∙ c.if-standing-position.false;
            ten = subst (λ (n : ℕ). 10 ≤ n) c.count_standing.ensures c.if-count_standing-lt10.false;
            short_is = c.is_short-short.ensures ∙ ap (is_short_for e.version stands) place;
            list_is = c.fetch_list-list.ensures ∙ ap (fetch_list_of e.version stands) (sym number);
            chosen_is = λ p h. same p ∙ c.solved_positions-chosen.ensures p h ∙ ap (λ k. solved_at c.is_short-short.result stands k p) place;
          } ∣₁;
    }
