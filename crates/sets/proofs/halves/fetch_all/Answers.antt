use Rattle.std.proofs.Common.{ℕ, List, ◌≡◌, ◌<◌, map, length, get_or, take, sym, ap, ◌∙◌, arith}
use Rattle.std.proofs.lemmas.List.{length-set, take_all, length-take-le}
use Rattle.codes.specs.Lists.{listed}
use Rattle.codes.specs.declared.list.FetchList.{FetchList}
use Rattle.sets.specs.Rebuilding.{fetched}
use Rattle.sets.proofs.Writing.{fetched_more}
use Rattle.sets.proofs.halves.fetch_all.Goals as goal

-- a list has at most twenty halves
within : (l : FetchList) (entries : List (ℕ × ℕ)) (n : ℕ) → entries ≡ listed l → n < length entries → n < 20
within l entries n e h =
    let same : length entries ≡ length (listed l) = ap length e in
    let short : length (listed l) ≡ l.len = length-take-le _ _ (omega arith) in
    omega arith

pub loop-n-preserved : goal.loop-n-preserved
loop-n-preserved g c =
    let s = g.S.UnitStore.model c.args.store.now in
    let list = listed c.args.list.now in
    let same : length c.halves-unit-items.result.now ≡ length list = ap length c.halves-unit-items.ensures in
    let short : length list ≡ c.args.list.now.len = length-take-le _ _ (omega arith) in (
      length-set _ _ _ ∙ c.loop-n.invariant.0,
      fetched_more (fetched s) s.size c.loop-n.n c.loop-n.room.halves c.fetch.new.place list _ (0, 0) (omega (arith, c.loop-n.invariant.0, c.loop-n-test.true)) (omega (arith, c.loop-n-test.true))
          (ap (λ l. get_or l c.loop-n.n (0, 0)) c.halves-unit-items.ensures) c.fetch.ensures c.loop-n.invariant.1,
    )

pub returns : goal.returns
returns g c =
    let s = g.S.UnitStore.model c.args.store.now in
    let list = listed c.args.list.now in
    let same : length c.halves-unit-items.result.now ≡ length list = ap length c.halves-unit-items.ensures in
    let short : length list ≡ c.args.list.now.len = length-take-le _ _ (omega arith) in
    let all : c.loop-n.n ≡ c.args.list.now.len = omega (arith, c.loop-n-test.false, c.loop-n.auto.n-end) in
    ap (λ k. map (take s.size) (take k c.loop-n.room.halves)) (sym all) ∙ c.loop-n.invariant.1 ∙ ap (map (fetched s)) (take_all c.loop-n.n list (omega arith))

pub bounds-room-n : goal.bounds-room-n
bounds-room-n g c = within c.args.list.now c.halves-unit-items.result.now c.loop-n.n c.halves-unit-items.ensures c.loop-n-test.true

pub offset_bounds-room-n : goal.offset_bounds-room-n
offset_bounds-room-n g c = let l = within c.args.list.now c.halves-unit-items.result.now c.loop-n.n c.halves-unit-items.ensures c.loop-n-test.true in omega arith
