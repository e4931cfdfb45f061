use Rattle.std.proofs.Common.{◌≡◌, ℕ, ◌+◌, Bool, false, [], ◌∷◌, ◌++◌, get_or, sym, ap, ◌∙◌, arith}
use Rattle.tables.specs.Codewords.{count}
use Rattle.tables.proofs.Counts.{count_yes, count_no}
use Rattle.codes.specs.Lists.{listed, half}
use Rattle.codes.proofs.Listings.{whole_taken, whole_full, whole_missing}
use Rattle.codes.proofs.fetch.lowest_ten.Goals as goal
use Rattle.codes.proofs.fetch.lowest_ten.Goals.{then-stands, then-seen-lt10, else-seen-lt10, else-stands}

pub push_whole-requires : goal.push_whole-requires
push_whole-requires c = (omega (arith, c.loop-p.invariant.2 (omega arith)), omega arith)

pub loop-p-preserved : goal.loop-p-preserved
loop-p-preserved c =
    let t = c.loop-p in
    let stands : ℕ → Bool = λ p. get_or c.args.standing.now p false in
    elim c.if-stands.branch [
      | then-stands w ↦
          let yes = w.if-stands.true in
          let seen : c.if-stands.seen ≡ count (t.p + 1) stands = w.seen-is ∙ ap (λ n. n + 1) t.invariant.1 ∙ sym (count_yes t.p stands yes) in
          elim w.if-seen-lt10.branch [
            | then-seen-lt10 w' ↦ (
              omega (arith, w.seen-is),
              seen,
              (λ h. omega (arith, w.seen-is, ap (λ l. l.len) (w.list-is ∙ w'.list-is), w'.push_whole.ensures.count, t.invariant.2 (omega (arith, w.seen-is)))),
              ap listed (w.list-is ∙ w'.list-is) ∙ w'.push_whole.ensures.items
                  ∙ ap (λ xs. xs ++ (half 1 t.p ∷ half 2 t.p ∷ [])) t.invariant.3
                  ∙ sym (whole_taken stands t.p t.seen yes t.invariant.1 w'.if-seen-lt10.true),
            )
            | else-seen-lt10 w' ↦ (
              omega (arith, w.seen-is),
              seen,
              (λ h. omega (arith, w.seen-is, w'.if-seen-lt10.false)),
              ap listed (w.list-is ∙ w'.list-is) ∙ t.invariant.3
                  ∙ sym (whole_full stands t.p t.seen yes t.invariant.1 w'.if-seen-lt10.false),
            )
          ]
      | else-stands w ↦
          let no = w.if-stands.false in (
            omega (arith, w.seen-is),
            w.seen-is ∙ t.invariant.1 ∙ sym (count_no t.p stands no),
            (λ h. omega (arith, w.seen-is, ap (λ l. l.len) w.list-is, t.invariant.2 (omega (arith, w.seen-is)))),
            ap listed w.list-is ∙ t.invariant.3 ∙ sym (whole_missing stands t.p no),
          )
    ]
