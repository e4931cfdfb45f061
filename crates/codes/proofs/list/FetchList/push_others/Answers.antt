use Rattle.std.proofs.Common.{◌≡◌, ◌+◌, ◌-◌, ◌≤◌, [], ◌∷◌, ◌++◌, map, sym, ap, ◌∙◌, append_assoc, arith, rules}
use Rattle.std.proofs.lemmas.List.{append-nil}
use Rattle.tables.specs.Multipliers.{upto}
use Rattle.codes.specs.Lists.{listed, half, without}
use Rattle.codes.proofs.Listings.{others_taken, others_left}
use Rattle.codes.proofs.list.FetchList.push_others.Goals as goal

pub loop-p-init : goal.loop-p-init
loop-p-init c =
    let from : c.into_iter-p-iterator.result ≡ c.args.positions = search rules in
    let none : c.into_iter-p-iterator.result.start - c.args.positions.start ≡ 0 = omega (arith, ap (λ r. r.start) from) in
    record {
      end_is = search rules;
      low = omega (arith, ap (λ r. r.start) from);
      high = omega (arith, ap (λ r. r.start) from);
      count = omega arith;
      items = sym (ap (λ n. listed c.args.self.now ++ map (half c.args.half) (without c.args.except (upto c.args.positions.start n))) none ∙ append-nil _);
    }

pub loop-p-preserved-then-p-except : goal.loop-p-preserved-then-p-except
loop-p-preserved-then-p-except c =
    let t = c.loop-p.invariant in
    let h = c.args.half in
    let u = c.args.except in
    let i = c.args.positions.start in
    let before = listed c.args.self.now in
    let here : c.in-Some.p ≡ c.loop-p.p-iterator.start = search rules in
    let next : c.next.new.self.start ≡ c.in-Some.p + 1 = search rules in
    let low : i ≤ c.in-Some.p = omega (arith, here, t.low) in
    record {
      end_is = search rules;
      low = omega (arith, next, low);
      high = search rules;
      count = omega (arith, next, here, low, t.count, c.push.ensures.count);
      items = c.push.ensures.items ∙ ap (λ xs. xs ++ (half h c.in-Some.p ∷ [])) (t.items ∙ ap (λ j. before ++ map (half h) (without u (upto i (j - i)))) (sym here))
          ∙ append_assoc before (map (half h) (without u (upto i (c.in-Some.p - i)))) (half h c.in-Some.p ∷ [])
          ∙ ap (λ xs. before ++ xs) (sym (others_taken h u i c.in-Some.p low c.if-p-except.true))
          ∙ ap (λ j. before ++ map (half h) (without u (upto i (j - i)))) (sym next);
    }

pub loop-p-preserved : goal.loop-p-preserved
loop-p-preserved c =
    let t = c.loop-p.invariant in
    let h = c.args.half in
    let u = c.args.except in
    let i = c.args.positions.start in
    let before = listed c.args.self.now in
    let here : c.in-Some.p ≡ c.loop-p.p-iterator.start = search rules in
    let next : c.next.new.self.start ≡ c.in-Some.p + 1 = search rules in
    let low : i ≤ c.in-Some.p = omega (arith, here, t.low) in
    record {
      end_is = search rules;
      low = omega (arith, next, low);
      high = search rules;
      count = omega (arith, next, here, low, t.count);
      items = t.items
          ∙ ap (λ j. before ++ map (half h) (without u (upto i (j - i)))) (sym here)
          ∙ ap (λ xs. before ++ xs) (sym (others_left h u i c.in-Some.p low c.if-p-except.false))
          ∙ ap (λ j. before ++ map (half h) (without u (upto i (j - i)))) (sym next);
    }
