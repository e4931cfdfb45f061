use Rattle.std.proofs.Common.{◌≡◌, ◌+◌, [], ◌∷◌, ◌++◌, map, sym, ap, ◌∙◌, ap₂, append_assoc, arith}
use Rattle.codes.specs.Lists.{listed, half, home, short_end, without}
use Rattle.codes.specs.Versions.{group}
use Rattle.codes.proofs.Listings.{end_group}
use Rattle.codes.proofs.list.FetchList.push_end.Goals as goal

pub returns-in-None : goal.returns-in-None
returns-in-None c =
    let before = listed c.args.self.now in
    let none : home c.args.version c.args.u ≡ 0 = c.in-None.ensures in
    c.push-in-None-2.ensures.items
    ∙ ap (λ t. t ++ ((12, 1) ∷ [])) (c.push-in-None.ensures.items ∙ ap (λ t. t ++ ((14, 2) ∷ [])) c.push.ensures.items)
    ∙ append_assoc (before ++ ((13, 2) ∷ [])) ((14, 2) ∷ []) ((12, 1) ∷ [])
    ∙ append_assoc before ((13, 2) ∷ []) ((14, 2) ∷ (12, 1) ∷ [])
    ∙ ap (λ l. before ++ short_end c.args.version c.args.u l) (sym none)

pub returns-in-Some : goal.returns-in-Some
returns-in-Some c =
    let before = listed c.args.self.now in
    let u = c.args.u in
    let l = c.in-Some.l in
    let run = c.group.ensures in
    let home_is = c.in-Some.ensures in
    c.push_others.ensures.items
    ∙ ap₂ ◌++◌ c.push-in-Some.ensures.items (ap (λ js. map (half 1) (without u js)) run.members)
    ∙ append_assoc before ((11 + l, 2) ∷ []) (map (half 1) (without u (group c.args.version l)))
    ∙ ap (λ t. before ++ t) (end_group c.args.version u l (λ e. omega (arith, e, home_is.1.0)))
    ∙ ap (λ m. before ++ short_end c.args.version u m) (sym home_is.0)
