use Rattle.std.proofs.Common.{[], ◌∷◌, ◌++◌, ap, ◌∙◌, append_assoc, arith}
use Rattle.codes.specs.Lists.{listed, half}
use Rattle.codes.proofs.list.FetchList.push_whole.Goals as goal

pub returns : goal.returns
returns c =
    let x = half 1 c.args.p in
    let y = half 2 c.args.p in
    record {
      items = c.push-2.ensures.items ∙ ap (λ t. t ++ (y ∷ [])) c.push.ensures.items
          ∙ append_assoc (listed c.args.self.now) (x ∷ []) (y ∷ []);
      count = omega (arith, c.push-2.ensures.count, c.push.ensures.count);
    }
