-- More replies.
use Rattle.std.proofs.Common.{◌≡◌, ◌∙◌, ap, sym, subst, List, ℕ, [], ◌∷◌, ◌++◌, Result, Ok, Err, OnOk, OnErr}
use Rattle.std.proofs.lemmas.List.{append-nil}
use Rattle.lists.specs.declared.memory.Memory.{Memory}
use Rattle.serial_model.specs.ReplyWords.{AreReplyWords, are_appended, replies_of, replies_words, reply_words}
use Rattle.serial_model.specs.declared.reply.Reply.{Reply}

-- the words are those of replies, whether more found room or not
pub words_appended : (result : Result (Unit {0}) Memory) (old new words : List ℕ) (more : List Reply) → AreReplyWords old → words ≡ replies_words more
    → OnOk result (new ≡ old ++ words) → OnErr result (new ≡ old) → AreReplyWords new
words_appended (Ok x) old new words more are spelled ok memory =
    subst (λ (l : List ℕ). AreReplyWords l) (sym (ok ∙ ap (λ (l : List ℕ). old ++ l) spelled)) (are_appended old more are).0
words_appended (Err e) old new words more are spelled ok memory = subst (λ (l : List ℕ). AreReplyWords l) (sym memory) are

-- and then there are these more
pub replies_appended : (result : Result (Unit {0}) Memory) (old new words : List ℕ) (replies more : List Reply) → AreReplyWords old → replies_of old ≡ replies
    → words ≡ replies_words more → OnOk result (new ≡ old ++ words) → OnOk result (replies_of new ≡ replies ++ more)
replies_appended (Ok x) old new words replies more are is spelled ok =
    ap replies_of (ok ∙ ap (λ (l : List ℕ). old ++ l) spelled) ∙ (are_appended old more are).1 ∙ ap (λ (l : List Reply). l ++ more) is
replies_appended (Err e) old new words replies more are is spelled ok = tt

-- the words of one reply
pub one_reply : (words : List ℕ) (reply : Reply) → words ≡ reply_words reply → words ≡ replies_words (reply ∷ [])
one_reply words reply spelled = spelled ∙ sym (append-nil (reply_words reply))

-- a reply of these words was added
pub was_pushed : (result : Result (Unit {0}) Memory) (old new : List Reply) (words : List ℕ) (reply : Reply) → words ≡ reply_words reply
    → OnOk result ((r : Reply) → words ≡ reply_words r → new ≡ old ++ r ∷ []) → OnOk result (new ≡ old ++ reply ∷ [])
was_pushed (Ok x) old new words reply spelled ok = ok reply spelled
was_pushed (Err e) old new words reply spelled ok = tt

-- whichever reply has these words, it was added
pub each_pushed : (result : Result (Unit {0}) Memory) (old new words : List ℕ) (replies : List Reply) → AreReplyWords old → replies_of old ≡ replies
    → OnOk result (new ≡ old ++ words) → OnOk result ((r : Reply) → words ≡ reply_words r → replies_of new ≡ replies ++ r ∷ [])
each_pushed (Ok x) old new words replies are is ok =
    λ r spelled. replies_appended (Ok x) old new words replies (r ∷ []) are is (one_reply words r spelled) ok
each_pushed (Err e) old new words replies are is ok = tt
