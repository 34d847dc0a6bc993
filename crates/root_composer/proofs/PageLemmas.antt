-- Pages of a store, by their numbers.
use Rattle.std.proofs.Common.{◌≡◌, ℕ, ◌+◌, ◌-◌, ◌<◌, zero, suc, List, [], ◌∷◌, ◌++◌, length, get_or, take, replicate, Some, sym, ap, subst, ◌∙◌, arith, append-nil}
use Rattle.std.specs.Prelude.{slice_get}
use Rattle.std.proofs.lemmas.List.{map-append, take_more}
use Rattle.wire_form.specs.declared.page.Page.{Page}
use Rattle.wire_form.specs.Bytes.{padded}
use Rattle.snapshot_store.specs.Store.{NumberedFrom}
use Rattle.snapshot_store.specs.Content.{words_of}

-- 64 words need no zeros behind them
pub whole_page : (words : List ℕ) → length words ≡ 64 → padded 64 words ≡ words
whole_page words h =
    let none : 64 - length words ≡ 0 = omega arith in
    ap (λ k. words ++ replicate k 0) none ∙ append-nil words

-- one more item of a list, that is there
pub take_get : {X : Type 0} (xs : List X) (i : ℕ) (x : X) → slice_get xs i ≡ Some x → take (i + 1) xs ≡ take i xs ++ x ∷ []
take_get [] i x e = absurd (cc)
take_get (y ∷ ys) zero x e = let same : y ≡ x = cc in ap (λ z. z ∷ []) same
take_get (y ∷ ys) (suc i) x e =
    let next : suc i + 1 ≡ suc (i + 1) = omega arith in
    ap (λ k. take k (y ∷ ys)) next ∙ ap (λ l. y ∷ l) (take_get ys i x e)

-- ---- pages that are numbered

numbered_push : (first : ℕ) (pages : List Page) (p : Page) → NumberedFrom first pages → p.number ≡ first + length pages → NumberedFrom first (pages ++ p ∷ [])
numbered_push first [] p all is = (is ∙ omega arith, tt)
numbered_push first (q ∷ qs) p all is =
    let next : p.number ≡ first + 1 + length qs = omega (arith, is) in
    (all.0, numbered_push (first + 1) qs p all.1 next)

pub numbered_pushed : (pages : List Page) (p : Page) (first n : ℕ) (new : List Page) → new ≡ pages ++ p ∷ [] → NumberedFrom first pages → p.number ≡ n → n ≡ first + length pages → NumberedFrom first new
numbered_pushed pages p first n new pushed all number is = subst (λ (l : List Page). NumberedFrom first l) (sym pushed) (numbered_push first pages p all (number ∙ is))

pub words_pushed : (pages : List Page) (p : Page) (d : List ℕ) (new : List Page) (made : List (List ℕ)) (i : ℕ) → new ≡ pages ++ p ∷ [] → words_of pages ≡ take i made → p.words ≡ get_or made i d → i < length made
    → words_of new ≡ take (i + 1) made
words_pushed pages p d new made i pushed so_far words here =
    ap words_of pushed
    ∙ map-append (λ (q : Page). q.words) pages (p ∷ [])
    ∙ ap (λ l. l ++ p.words ∷ []) so_far
    ∙ ap (λ x. take i made ++ x ∷ []) words
    ∙ sym (take_more made i d here)
