-- A log grows line by line, and the set agrees with the book of its calls.
use Rattle.std.proofs.Common.{◌≡◌, ℕ, ◌+◌, ◌<◌, List, [], ◌∷◌, ◌++◌, length, take, set, sym, refl, ap, ◌∙◌, subst}
use mathlib.Core.List.{map-append}
use Rattle.std.proofs.lemmas.List.{take_more_set}
use Rattle.tables.specs.Multipliers.{entry}
use Rattle.codes.specs.Versions.{Admits}
use Rattle.sets.specs.Calls.{Call, Answer}
use Rattle.sets.specs.Fillings.{Make}
use Rattle.sets.specs.Sets.{View, new_set, answer, after}
use Rattle.archive.specs.Books.{Book, new_book, told, noted}
use Rattle.archive.specs.Logs.{asked_call, told_answer, calls, answers_in, Turn, Logged}
use Rattle.archive.specs.Runs.{kept, tells, Holds}
use Rattle.archive.specs.declared.order.Line.{Line}
use Rattle.archive.proofs.Shown.{shown, Right}
use Rattle.archive.proofs.Steps.{new_shown, new_right, step, right_holds}

kept_more : (b : Book) (cs : List Call) (c : Call) → kept b (cs ++ (c ∷ [])) ≡ noted (kept b cs) c
kept_more b [] c = refl
kept_more b (x ∷ cs) c = kept_more (noted b x) cs c

tells_more : (b : Book) (cs : List Call) (c : Call) → tells b (cs ++ (c ∷ [])) ≡ tells b cs ++ (told (kept b cs) c ∷ [])
tells_more b [] c = refl
tells_more b (x ∷ cs) c = ap (λ l. told b x ∷ l) (tells_more (noted b x) cs c)

-- the answers so far are the book's, and the set is as the book shows it
pub record Following (m : Make) (h : ℕ) (lines : List Line) (v : View) : Type 0 where
  pub said : answers_in lines ≡ tells (new_book m h) (calls lines)
  pub same : v ≡ shown (kept (new_book m h) (calls lines))
  pub right : Right (kept (new_book m h) (calls lines))

pub starts : (m : Make) (h : ℕ) (v : View) → Admits m.version (entry m.table) → v ≡ new_set m h → Following m h [] v
starts m h v ad e = record { said = refl; same = e ∙ new_shown m h; right = new_right m h ad }

one_more : (m : Make) (h : ℕ) (lines : List Line) (line : Line) (v w : View) → Following m h lines v → Turn v (asked_call line.asked) (told_answer line.told) w
    → Following m h (lines ++ (line ∷ [])) w
one_more m h lines line v w f t =
    let c = asked_call line.asked in
    let cs = calls lines in
    let b = kept (new_book m h) cs in
    let s = step b f.right c t.typed in
    let more : calls (lines ++ (line ∷ [])) ≡ cs ++ (c ∷ []) = map-append _ lines (line ∷ []) in
    let book : kept (new_book m h) (calls (lines ++ (line ∷ []))) ≡ noted b c = ap (kept (new_book m h)) more ∙ kept_more (new_book m h) cs c in
    let here : told_answer line.told ≡ told b c = t.said ∙ ap (λ (x : View). answer x c) f.same ∙ s.0 in
    record {
      said = map-append _ lines (line ∷ []) ∙ ap (λ l. l ++ (told_answer line.told ∷ [])) f.said ∙ ap (λ x. tells (new_book m h) cs ++ (x ∷ [])) here
          ∙ sym (tells_more (new_book m h) cs c) ∙ ap (tells (new_book m h)) (sym more);
      same = t.moved ∙ ap (λ (x : View). after x c) f.same ∙ s.1 ∙ ap shown (sym book);
      right = subst Right (sym book) s.2;
    }

-- one line more of a log
pub line_more : (m : Make) (h : ℕ) (log : List Line) (i : ℕ) (line : Line) (v w : View) (c : Call) (a : Answer) → i < length log → Following m h (take i log) v
    → asked_call line.asked ≡ c → told_answer line.told ≡ a → Turn v c a w → Following m h (take (i + 1) (set log i line)) w
line_more m h log i line v w c a l f p q t =
    let u : Turn v (asked_call line.asked) a w = subst (λ (x : Call). Turn v x a w) (sym p) t in
    let r : Turn v (asked_call line.asked) (told_answer line.told) w = subst (λ (x : Answer). Turn v (asked_call line.asked) x w) (sym q) u in
    rw take_more_set (one_more m h (take i log) line v w f r)

pub is_logged : (m : Make) (h : ℕ) (lines : List Line) (v : View) → Following m h lines v → Logged m h lines v
is_logged m h lines v f = record {
  told = f.said;
  holds = subst (λ (x : View). Holds x (kept (new_book m h) (calls lines))) (sym f.same) (right_holds (kept (new_book m h) (calls lines)) f.right);
}
