-- Storages that a loop adds to the text, one after another, and those that it looks for.
use Rattle.std.proofs.Common.{◌≡◌, inl, inr, ◌∙◌, sym, ap, subst, ℕ, ◌+◌, ◌<◌, ◌≤◌, List, [], ◌∷◌, ◌++◌, length, get_or, drop, Option, Some, None, Result, Ok, Err, arith, append_assoc, add-one, drop-cons}
use Rattle.std.specs.Prelude.{IfSome, OnOk, codes}
use Rattle.std.specs.List.{Contains}
use Rattle.std.proofs.lemmas.Bool.{cases_lt}
use Rattle.std.proofs.lemmas.List.{get_or_default}
use Rattle.serial_model.specs.declared.decl.Decl.{Decl}
use Rattle.text_output.specs.Output.{Bytes, Output, Adds, Breaks, Prints}
use Rattle.text_output.specs.Printed.{adds_then, breaks_as, breaks_then, breaks_within}
use Rattle.program_calls.specs.Ending.{decl_text, decls_text, more_decls_text}

-- the first storage, and the others
decls_split : (decls : List Decl) (first : Decl) → 0 < length decls → first ≡ get_or decls 0 first → decls_text decls ≡ decl_text first ++ more_decls_text (drop 1 decls)
decls_split [] first some is = absurd (omega arith)
decls_split (d ∷ ds) first some is = ap (λ x. decl_text x ++ more_decls_text ds) (sym is)

pub some_decls : {T E : Type 0} (old new : Output) (decls : List Decl) (first : Decl) (r : Result T E) → 0 < length decls → first ≡ get_or decls 0 first
    → Prints old new (decl_text first ++ more_decls_text (drop 1 decls)) r → Prints old new (decls_text decls) r
some_decls old new decls first r some is prints = subst (λ t. Prints old new t r) (sym (decls_split decls first some is)) prints

-- those behind the first and in front of an index were added, and those from it on weren't yet
pub record DeclsSoFar (old now : Output) (decls : List Decl) (index : ℕ) : Type 0 where
  pub text : Bytes
  pub adds : Adds old now text
  pub whole : text ++ more_decls_text (drop index decls) ≡ more_decls_text (drop 1 decls)

-- what is left begins with the storage at the index
left_at : (decls : List Decl) (index : ℕ) (decl : Decl) → index < length decls → decl ≡ get_or decls index decl
    → more_decls_text (drop index decls) ≡ (codes "," ++ decl_text decl) ++ more_decls_text (drop (index + 1) decls)
left_at decls index decl within is =
    ap more_decls_text (rw add-one (drop-cons decls index decl within) ∙ ap (λ d. d ∷ drop (index + 1) decls) (sym is))

pub one_decl : (old now then : Output) (decls : List Decl) (index : ℕ) (decl : Decl) → DeclsSoFar old now decls index → index < length decls
    → decl ≡ get_or decls index decl → Adds now then (codes "," ++ decl_text decl) → DeclsSoFar old then decls (index + 1)
one_decl old now then decls index decl so within is one = record {
  text = so.text ++ (codes "," ++ decl_text decl);
  adds = adds_then so.adds one;
  whole = append_assoc so.text (codes "," ++ decl_text decl) (more_decls_text (drop (index + 1) decls))
      ∙ ap (λ w. so.text ++ w) (sym (left_at decls index decl within is)) ∙ so.whole;
}

pub decl_broke : (old now then : Output) (decls : List Decl) (index : ℕ) (decl : Decl) → DeclsSoFar old now decls index → index < length decls
    → decl ≡ get_or decls index decl → Breaks now then (codes "," ++ decl_text decl) → Breaks old then (more_decls_text (drop 1 decls))
decl_broke old now then decls index decl so within is one =
    breaks_as so.whole (breaks_as (ap (λ w. so.text ++ w) (sym (left_at decls index decl within is)))
    (breaks_then so.adds (breaks_within (more_decls_text (drop (index + 1) decls)) one)))

-- the sink failed at a comma
pub comma_broke : (old now then : Output) (decls : List Decl) (index : ℕ) → DeclsSoFar old now decls index → index < length decls
    → Breaks now then (codes ",") → Breaks old then (more_decls_text (drop 1 decls))
comma_broke old now then decls index so within broke = of decls index so within broke
  where
    at : (ds : List Decl) (i : ℕ) → i < length ds → (x : Decl) × (x ≡ get_or ds i x)
    at [] i below = absurd (omega (arith, below))
    at (d ∷ ds) i below = (get_or (d ∷ ds) i d, get_or_default (d ∷ ds) i d (get_or (d ∷ ds) i d) below)

    of : (ds : List Decl) (i : ℕ) → DeclsSoFar old now ds i → i < length ds → Breaks now then (codes ",") → Breaks old then (more_decls_text (drop 1 ds))
    of ds i so within broke =
        let x = at ds i within in
        decl_broke old now then ds i x.0 so within x.1 (breaks_within (decl_text x.0) broke)

-- ---- storages that are looked for

-- one more of the wanted ones is among the others
pub among_more : (decls wanted : List Decl) (index : ℕ) (x : Decl) → ((k : ℕ) (d : Decl) → k < index → Contains decls (get_or wanted k d))
    → index < length wanted → x ≡ get_or wanted index x → Contains decls x → (k : ℕ) (d : Decl) → k < index + 1 → Contains decls (get_or wanted k d)
among_more decls wanted index x so within is here k d below = elim (cases_lt k index) [
  | inl less ↦ so k d less
  | inr more ↦
      let same : k ≡ index = omega (arith, below, more) in
      subst (λ n. Contains decls (get_or wanted n d)) (sym same) (subst (λ y. Contains decls y) (is ∙ get_or_default wanted index x d within) here)
]

-- all of them are
pub among_all : (decls wanted : List Decl) (index : ℕ) → ((k : ℕ) (d : Decl) → k < index → Contains decls (get_or wanted k d)) → length wanted ≤ index
    → (decl : Decl) → Contains wanted decl → Contains decls decl
among_all decls wanted index so all decl has = subst (λ y. Contains decls y) has.2 (so has.0 decl (omega (arith, all, has.1)))

-- what holds where a call is done holds there where something is there
pub ok_if_some : {T E A : Type 0} (C : Type 0) (r : Result T E) (o : Option A) → OnOk r C → OnOk r (IfSome o (λ _. C))
ok_if_some C (Ok x) None is = tt
ok_if_some C (Ok x) (Some y) is = is
ok_if_some C (Err e) o is = tt
