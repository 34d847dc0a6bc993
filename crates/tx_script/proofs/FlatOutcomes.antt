-- One outcome more, and which of them met the limit.
use Rattle.std.proofs.Common.{◌≡◌, ◌∙◌, sym, ap, subst, refl, ℕ, suc, ◌||◌, List, [], ◌∷◌, ◌++◌, length, take, drop, arith, length-append}
use Rattle.std.specs.List.{list_any}
use Rattle.std.proofs.lemmas.List.{append-nil, drop_all, take_all, take-append-le, drop-append-le}
use Rattle.serial_model.specs.ReplyWords.{AreReplyWords, are_words, replies_of, replies_of-words, replies_words}
use Rattle.serial_model.specs.declared.number.Number.{Number}
use Rattle.serial_model.specs.declared.reply.Reply.{Reply}
use Rattle.serial_model.specs.declared.reply.Verdict.{Verdict}
use Rattle.tx_script.specs.declared.outcome.Outcome.{Outcome}
use Rattle.tx_script.specs.declared.outcome.Outcome.TheVariants as outcome
use Rattle.tx_script.specs.declared.outcomes.Head.{Head}
use Rattle.tx_script.specs.declared.outcomes.Kind.{Kind}
use Rattle.tx_script.specs.declared.outcomes.Kind.TheVariants.{Committed}
use Rattle.tx_script.specs.declared.outcomes.Kind.TheVariants as kinds
use Rattle.tx_script.specs.declared.outcomes.Refused as why
use Rattle.tx_script.specs.Flat.{AreOutcomeWords, is_refused, outcome_in, outcome_of, outcome_refused, outcomes_in}
use Rattle.tx_script.specs.Run.{is_limit}

taken_push : (head : Head) (words more : List ℕ) → words ≡ [] → length more ≡ head.count → take head.count (words ++ more) ≡ more
taken_push head words more none same =
    ap (λ w. take head.count (w ++ more)) none ∙ take_all head.count more (omega (arith, same))

pub pushed_in : (heads : List Head) (words more : List ℕ) (head : Head) → AreOutcomeWords heads words → length more ≡ head.count
    → outcomes_in (heads ++ head ∷ []) (words ++ more) ≡ outcomes_in heads words ++ outcome_in head more ∷ []
pushed_in [] words more head are same = ap (λ w. outcome_in head w ∷ []) (taken_push head words more are same)
pushed_in (first ∷ heads) words more head are same =
    let front : take first.count (words ++ more) ≡ take first.count words = take-append-le first.count words more are.0 in
    let rest : drop first.count (words ++ more) ≡ drop first.count words ++ more = drop-append-le first.count words more are.0 in
    ap (λ w. outcome_in first w ∷ outcomes_in (heads ++ head ∷ []) (drop first.count (words ++ more))) front
    ∙ ap (λ w. outcome_in first (take first.count words) ∷ outcomes_in (heads ++ head ∷ []) w) rest
    ∙ ap (λ o. outcome_in first (take first.count words) ∷ o) (pushed_in heads (drop first.count words) more head are.2 same)

pub pushed_are : (heads : List Head) (words more : List ℕ) (head : Head) → AreOutcomeWords heads words → length more ≡ head.count → AreReplyWords more
    → AreOutcomeWords (heads ++ head ∷ []) (words ++ more)
pushed_are [] words more head are same replies = (
  omega (arith, ap length are, same, length-append words more),
  subst AreReplyWords (sym (taken_push head words more are same)) replies,
  ap (λ w. drop head.count (w ++ more)) are ∙ drop_all head.count more (omega (arith, same)),
)
pushed_are (first ∷ heads) words more head are same replies =
    let front : take first.count (words ++ more) ≡ take first.count words = take-append-le first.count words more are.0 in
    let rest : drop first.count (words ++ more) ≡ drop first.count words ++ more = drop-append-le first.count words more are.0 in (
      omega (arith, are.0, length-append words more),
      subst AreReplyWords (sym front) are.1,
      subst (AreOutcomeWords (heads ++ head ∷ [])) (sym rest) (pushed_are heads (drop first.count words) more head are.2 same replies),
    )

same_test : (head : Head) (words : List ℕ) (kind : Kind) → head.kind ≡ kind → is_limit (outcome_in head words) ≡ is_refused head
same_test head words (Committed verdict) is = rw is refl
same_test head words (kinds.Refused refused) is = rw is refl

pub any_limit_in : (heads : List Head) (words : List ℕ) → list_any is_limit (outcomes_in heads words) ≡ list_any is_refused heads
any_limit_in [] words = refl
any_limit_in (head ∷ heads) words =
    ap (λ b. b || list_any is_limit (outcomes_in heads (drop head.count words))) (same_test head (take head.count words) head.kind refl)
    ∙ ap (λ b. is_refused head || b) (any_limit_in heads (drop head.count words))

pub length-outcomes_in : (heads : List Head) (words : List ℕ) → length (outcomes_in heads words) ≡ length heads
length-outcomes_in [] words = refl
length-outcomes_in (head ∷ heads) words = ap suc (length-outcomes_in heads (drop head.count words))

-- ---- a commit, and a line that was not committed

pub commit_in : (heads : List Head) (words more : List ℕ) (head : Head) (old : List Outcome) (verdict : Verdict) (replies : List Reply)
    → AreOutcomeWords heads words → length more ≡ head.count → more ≡ replies_words replies → head.kind ≡ Committed verdict → outcomes_in heads words ≡ old
    → outcomes_in (heads ++ head ∷ []) (words ++ more) ≡ old ++ outcome.Committed verdict (record { epoch = head.epoch; draw = head.draw }) replies ∷ []
commit_in heads words more head old verdict replies are same is kind before =
    let number : Number = record { epoch = head.epoch; draw = head.draw } in
    pushed_in heads words more head are same ∙ ap (λ o. o ++ outcome_in head more ∷ []) before
    ∙ ap (λ k. old ++ outcome_of k number (replies_of more) ∷ []) kind
    ∙ ap (λ rs. old ++ outcome.Committed verdict number rs ∷ []) (ap replies_of is ∙ replies_of-words replies)

pub commit_are : (heads : List Head) (words more : List ℕ) (head : Head) (replies : List Reply) → AreOutcomeWords heads words → length more ≡ head.count → more ≡ replies_words replies
    → AreOutcomeWords (heads ++ head ∷ []) (words ++ more)
commit_are heads words more head replies are same is = pushed_are heads words more head are same (subst AreReplyWords (sym is) (are_words replies))

pub refused_in : (heads : List Head) (words : List ℕ) (head : Head) (old : List Outcome) (refused : why.Refused) → AreOutcomeWords heads words → head.count ≡ 0
    → head.kind ≡ kinds.Refused refused → outcomes_in heads words ≡ old → outcomes_in (heads ++ head ∷ []) words ≡ old ++ outcome_refused refused ∷ []
refused_in heads words head old refused are none kind before =
    let number : Number = record { epoch = head.epoch; draw = head.draw } in
    ap (outcomes_in (heads ++ head ∷ [])) (sym (append-nil words)) ∙ pushed_in heads words [] head are (sym none)
    ∙ ap (λ o. o ++ outcome_in head [] ∷ []) before ∙ ap (λ k. old ++ outcome_of k number (replies_of []) ∷ []) kind

pub refused_are : (heads : List Head) (words : List ℕ) (head : Head) → AreOutcomeWords heads words → head.count ≡ 0 → AreOutcomeWords (heads ++ head ∷ []) words
refused_are heads words head are none =
    subst (AreOutcomeWords (heads ++ head ∷ [])) (append-nil words) (pushed_are heads words [] head are (sym none) (are_words []))
