use Rattle.plate.specs.Requests.{word_of_version, word_of_code}
use Rattle.plate.proofs.Words.{version_is_word, code_is_word, no_word, same_word}
use Rattle.plate.proofs.line.named.Goals as goal

pub returns-in_err-first : goal.returns-in_err-first
returns-in_err-first c =
    rw c.from_residual.ensures (λ v d n right. no_word _ (word_of_version v) _ c.in_err-first.ensures right.text)

pub returns-in_err-second : goal.returns-in_err-second
returns-in_err-second c =
    rw c.from_residual-in_err-second.ensures (λ v d n right.
    let front = same_word _ _ _ _ _ c.in_ok-first.ensures (version_is_word v) right.text in
    no_word _ (word_of_code d) _ c.in_err-second.ensures front.1)

pub returns-in_err-version : goal.returns-in_err-version
returns-in_err-version c =
    rw c.from_residual-in_err-version.ensures (λ v d n right.
    let front = same_word _ _ _ _ _ c.in_ok-first.ensures (version_is_word v) right.text in
    c.in_err-version.ensures v front.0)

pub returns-in_err-code : goal.returns-in_err-code
returns-in_err-code c =
    rw c.from_residual-in_err-code.ensures (λ v d n right.
    let front = same_word _ _ _ _ _ c.in_ok-first.ensures (version_is_word v) right.text in
    let next = same_word _ _ _ _ _ c.in_ok-second.ensures (code_is_word d) front.1 in
    c.in_err-code.ensures d next.0)
