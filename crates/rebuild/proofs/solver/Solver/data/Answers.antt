use Rattle.std.proofs.Common.{ℕ, get_or, rules}
use base.Stored.{Coded-set}
use mathlib.Core.Logic.{∥∥₁_elim}
use Rattle.rebuild.proofs.Planning.{oks_of, solves_lowest, solved_fits}
use Rattle.rebuild.proofs.solver.Solver.data.Goals as goal

pub data_of-requires : goal.data_of-requires
data_of-requires g c = (search rules, (search rules, ∥∥₁_elim c.args.self.now.prepared squash₁ (λ 𝓠. ∣ 𝓠.fair ∣₁)))

pub returns : goal.returns
returns g c =
    let s = g.S.Symbol in
    let 𝓢 = g.met.S.Symbol.space in
    let plan = c.args.self.now in
    let set = Coded-set g.row.S.coded in
    let a = λ (k : ℕ). get_or c.data_of.result.0 k s.zero in
    let b = λ (k : ℕ). get_or c.data_of.result.1 k s.zero in
    let x = λ (p : ℕ). get_or c.args.x.now p s.zero in
    let y = λ (p : ℕ). get_or c.args.y.now p s.zero in
    let hx = oks_of s.ok s.zero 𝓢.ok_zero c.args.x.now c.all_held.ensures in
    let hy = oks_of s.ok s.zero 𝓢.ok_zero c.args.y.now c.all_held-2.ensures in
    record {
      fits = record {
        firsts = λ p h q. ∥∥₁_elim plan.prepared (set _ _) (λ 𝓠. (solved_fits 𝓢 plan.encoder.version 𝓠 x y a b c.data_of.ensures hx hy).firsts p h q);
        seconds = λ p h q. ∥∥₁_elim plan.prepared (set _ _) (λ 𝓠. (solved_fits 𝓢 plan.encoder.version 𝓠 x y a b c.data_of.ensures hx hy).seconds p h q);
      };
      only = λ d e hd he f k h. (
        ∥∥₁_elim plan.prepared (set _ _) (λ 𝓠. (solves_lowest 𝓢 plan.encoder.version 𝓠 x y a b c.data_of.ensures d e hd he f k h).0),
        ∥∥₁_elim plan.prepared (set _ _) (λ 𝓠. (solves_lowest 𝓢 plan.encoder.version 𝓠 x y a b c.data_of.ensures d e hd he f k h).1),
      );
    }
