-- Two makes of one version and one table rebuild the same bytes.
use Rattle.std.proofs.Common.{◌≡◌, ℕ, Bool, true, false, List, ◌++◌, map, refl, ap}
use mathlib.Core.Path.{subst⁻¹}
use Rattle.std.specs.List.{range_with_len}
use Rattle.tables.specs.Codewords.{Sound}
use Rattle.tables.specs.Multipliers.{entry}
use Rattle.tables.specs.declared.table.Table.{Table}
use Rattle.codes.specs.declared.version.Version.{Version}
use Rattle.rebuild.specs.Gathered.{fetched_by}
use Rattle.sets.specs.Fillings.{Make}
use Rattle.sets.specs.Rebuilding.{can_rebuild, one_rebuilt, rebuilt_if, rebuilt, rebuilt_bytes, column}

-- what is rebuilt is the same, whichever proof of the base code's law found it
sound_same : (v : Version) (t : Table) (s₁ s₂ : Sound (entry t)) (stood : List Bool) (u : ℕ) (x y : ℕ → ℕ) (b : Bool) (e : can_rebuild stood u ≡ b)
    → rebuilt_if (record { version = v; table = t; sound = s₁ }) stood u x y b e ≡ rebuilt_if (record { version = v; table = t; sound = s₂ }) stood u x y b e
unfolding rebuilt_if
sound_same v t s₁ s₂ stood u x y true e =
    let a = one_rebuilt (record { version = v; table = t; sound = s₁ }) stood u x y e in
    (one_rebuilt (record { version = v; table = t; sound = s₂ }) stood u x y e).only a.it a.holds
sound_same v t s₁ s₂ stood u x y false e = refl

module _ (m n : Make) (p : m.version ≡ n.version) (q : m.table ≡ n.table) (stood : List Bool) (u : ℕ) where
  rebuilt_same : (x y : ℕ → ℕ) → rebuilt m stood u x y ≡ rebuilt n stood u x y
  unfolding rebuilt
  rebuilt_same x y =
      subst⁻¹ (λ (z : Version × Table). (s : Sound (entry z.1)) → rebuilt (record { version = z.0; table = z.1; sound = s }) stood u x y ≡ rebuilt n stood u x y)
      (λ i. (p i, q i)) (λ s. sound_same n.version n.table s n.sound stood u x y (can_rebuild stood u) refl) m.sound

  pub bytes_same : (h : ℕ) (list : List (ℕ × ℕ)) (halves : List (List ℕ)) → rebuilt_bytes m h stood u list halves ≡ rebuilt_bytes n h stood u list halves
  bytes_same h list halves =
      ap (λ (r : (ℕ → ℕ) → (ℕ → ℕ) → ℕ × ℕ).
      let at : ℕ → ℕ × ℕ = λ i. r (fetched_by 0 list (column halves i) 1) (fetched_by 0 list (column halves i) 2) in
      map (λ i. (at i).0) (range_with_len 0 h) ++ map (λ i. (at i).1) (range_with_len 0 h))
      (λ k x y. rebuilt_same x y k)
