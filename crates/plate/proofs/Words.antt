-- The words of a line.
use Rattle.std.proofs.Common.{◌≡◌, ℕ, List, [], ◌∷◌, ◌≢◌, sym, refl, ◌∙◌, subst, arith}
use Rattle.std.proofs.lemmas.List.Elements.{All-head, All-tail}
use Rattle.codes.specs.declared.version.Version.{Version}
use Rattle.codes.specs.declared.version.Version.TheVariants.{Rs, Xor, XorPlus, NonXor}
use Rattle.plate.specs.declared.request.CodeName.{CodeName}
use Rattle.plate.specs.declared.request.CodeName.TheVariants.{Cauchy, Poly}
use Rattle.plate.specs.Requests.{word_of_version, word_of_code, IsWord, spaced}

pub version_is_word : (v : Version) → IsWord (word_of_version v)
version_is_word Rs = grind arith
version_is_word Xor = grind arith
version_is_word XorPlus = grind arith
version_is_word NonXor = grind arith

pub code_is_word : (c : CodeName) → IsWord (word_of_code c)
code_is_word Cauchy = grind arith
code_is_word Poly = grind arith

head : (b : ℕ) (w : List ℕ) → IsWord (b ∷ w) → b ≢ 32
head b w h = All-head (λ x. x ≢ 32) b w h

tail : (b : ℕ) (w : List ℕ) → IsWord (b ∷ w) → IsWord w
tail b w h = All-tail (λ x. x ≢ 32) b w h

-- a text with a space is no word
pub no_word : (text w rest : List ℕ) → IsWord text → text ≡ spaced w rest → ⊥
no_word text [] rest h e = head 32 rest (subst IsWord e h) refl
no_word text (b ∷ w) rest h e = no_word (spaced w rest) w rest (tail b (spaced w rest) (subst IsWord e h)) refl

same : (w u x y : List ℕ) → IsWord w → IsWord u → spaced w x ≡ spaced u y → (w ≡ u) × (x ≡ y)
same [] [] x y h k e = (refl, cc)
same [] (b ∷ u) x y h k e = absurd (head b u k cc)
same (a ∷ w) [] x y h k e = absurd (head a w h cc)
same (a ∷ w) (b ∷ u) x y h k e =
    let p = same w u x y (tail a w h) (tail b u k) cc in (cc, p.1)

-- a text has one first word
pub same_word : (text w u x y : List ℕ) → (text ≡ spaced w x) × IsWord w → IsWord u → text ≡ spaced u y → (w ≡ u) × (x ≡ y)
same_word text w u x y h k e = same w u x y h.1 k (sym h.0 ∙ e)
