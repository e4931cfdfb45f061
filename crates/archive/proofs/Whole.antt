-- The archive law, whole.
use Rattle.std.proofs.Common.{◌≡◌, ℕ, ◌≤◌, eqb, List, [], ◌∷◌, sym, refl, ◌∙◌, subst, arith}
use Rattle.std.specs.List.{AllByRecursion}
use Rattle.std.proofs.lemmas.Bool.{cond_both}
use Rattle.tables.specs.Multipliers.{entry}
use Rattle.codes.specs.Versions.{Admits}
use Rattle.sets.specs.Calls.{Call, refusal}
use Rattle.sets.specs.Calls.Call.{Fill, Lose, Read, Change, Open, Gather, Close, GiveUp}
use Rattle.sets.specs.Fillings.{Make}
use Rattle.sets.specs.Sets.{View}
use Rattle.archive.specs.Books.{Book, new_book, book_status, entered, noted}
use Rattle.archive.specs.Law.{Reads, ByTheBook, ArchiveLaw}
use Rattle.archive.specs.Runs.{kept, Typed, Holds}
use Rattle.archive.proofs.Ambiguity.{reads}
use Rattle.archive.proofs.Distances.{distance}
use Rattle.archive.proofs.Local.{locality}
use Rattle.archive.proofs.Steps.{new_right, answer_step, follows, right_holds}

-- the half size never changes
entered_size : (b : Book) (c : Call) → (entered b c).size ≡ b.size
entered_size b (Fill bytes) = refl
entered_size b (Lose u) = refl
entered_size b (Read u place) = refl
entered_size b (Change u new) = refl
entered_size b (Open u) = refl
entered_size b (Gather u n) = refl
entered_size b (Close u n) = refl
entered_size b (GiveUp k u n) = refl

kept_size : (b : Book) (cs : List Call) → (kept b cs).size ≡ b.size
kept_size b [] = refl
kept_size b (c ∷ cs) =
    kept_size (noted b c) cs ∙ cond_both (eqb (refusal (book_status b) c) 0) (entered b c) b (λ (x : Book). x.size ≡ b.size) (λ _. entered_size b c) (λ _. refl)

by_the_book : (m : Make) (h : ℕ) → Admits m.version (entry m.table) → 1 ≤ h → (cs : List Call) → AllByRecursion Typed cs → ByTheBook m h cs
by_the_book m h ad one cs t =
    let f = follows (new_book m h) (new_right m h ad) cs t in
    let b = kept (new_book m h) cs in
    let size : b.size ≡ h = kept_size (new_book m h) cs in
    record {
      told = f.0;
      holds = subst (λ (v : View). Holds v b) (sym f.1) (right_holds b f.2);
      reads = λ u place d l. subst (λ (v : View). Reads v b u place) (sym f.1) (reads b f.2 (omega (arith, one, size)) (answer_step b f.2) u place d (omega (arith, l, size)));
    }

pub archive_law : (m : Make) (h : ℕ) → Admits m.version (entry m.table) → ArchiveLaw m h
archive_law m h ad one = (distance m h, (by_the_book m h ad one, locality m h))
