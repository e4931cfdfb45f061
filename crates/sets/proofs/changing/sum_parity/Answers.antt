use Rattle.std.proofs.Common.{◌≡◌, ◌*◌, true, ◌++◌, length, ap, ◌∙◌, ap₂, arith, rules}
use lib.Bits.{bit_xor}
use lib.Lanes.{zip2}
use Rattle.std.proofs.lemmas.List.FromFn.{length-map-range_with_len}
use Rattle.std.proofs.lemmas.Bool.{and_parts}
use Rattle.stores.specs.Model.{is_unit, standing, half_of, halves, with_slot}
use Rattle.stores.specs.Calls.{put_store}
use Rattle.sets.specs.Fillings.{unit_at, unit_of, first_half, second_half, unit_bytes}
use Rattle.sets.specs.Meaning.{make}
use Rattle.sets.specs.Sets.{sum_units}
use Rattle.sets.proofs.Slots.{put_is, standing_long}
use Rattle.sets.proofs.Sums.{sum_halves}
use Rattle.sets.proofs.changing.sum_parity.Goals as goal

pub returns : goal.returns
returns g c =
    let s = g.S.UnitStore.model c.args.store.now in
    let m = make g.V.Scheme c.args.scheme.now in
    let w = c.args.unit.number in
    let n = s.size in
    let d = c.args.difference.now.bytes.now in
    let place = c.xor_into.new.place in
    let same : c.number-w.result ≡ w = search rules in
    let t : is_unit w ≡ true = (and_parts (is_unit w) (standing (s.unit w)) c.requires.stands).0 in
    let there : standing (s.unit w) ≡ true = (and_parts (is_unit w) (standing (s.unit w)) c.requires.stands).1 in
    let l : length place ≡ 2 * n = omega (arith, c.xor_into.auto.place, c.read_standing.auto.place, c.requires.old) in
    let added : c.write_unit.new.place ≡ unit_bytes m n d w = c.write_unit.ensures ∙ ap (λ k. unit_bytes m k d w) c.requires.size in
    let slot : halves n place ≡ sum_units (s.unit w) (unit_of m n d w) =
    ap (halves n) (c.xor_into.ensures ∙ ap₂ (zip2 bit_xor) (c.read_standing.ensures ∙ ap (λ k. half_of (s.unit k) 1 ++ half_of (s.unit k) 2) same) added)
    ∙ sum_halves n (s.unit w) (first_half m n d w) (second_half m n d w) (standing_long s w (g.S.UnitStore.sound c.args.store.now) there) (length-map-range_with_len (λ i. (unit_at m n d w i).0) 0 n) in
    c.put.ensures.store ∙ ap (λ k. put_store s k place) same ∙ put_is s w place t l ∙ ap (with_slot s w) slot
