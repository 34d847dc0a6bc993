-- Attempts and their transactions, worked by hand: storage 1 is an array, storage 2 a tree.
use Rattle.std.proofs.Common.{◌≡◌, inl, inr, ℕ, true, List, [], ◌∷◌, Option, Some, None, refl}
use Rattle.serial_model.specs.declared.key.Key.{Key}
use Rattle.serial_model.specs.declared.number.Number.{Number}
use Rattle.serial_model.specs.declared.number.Change.{Change}
use Rattle.serial_model.specs.declared.decl.Decl.{Decl}
use Rattle.serial_model.specs.declared.decl.Decl.TheVariants.{Array, Tree}
use Rattle.serial_model.specs.declared.op.Op.TheVariants.{Read, Write, Remove, Add, Take}
use Rattle.serial_model.specs.declared.reply.Reply.TheVariants.{Value}
use Rattle.serial_model.specs.declared.reply.Verdict.TheVariants.{Done, Short}
use Rattle.commit_core.specs.declared.part.Part.{Part}
use Rattle.commit_core.specs.declared.attempt.Attempt.{Attempt}
use Rattle.commit_core.specs.Keys.{content_of}
use Rattle.lists.specs.Elements.{in_none, in_head}
use Rattle.commit_core.specs.Parts.{covers, found, record_part}
use Rattle.serial_bridge.specs.Transaction.{Vouched, Sees, Continues, Stops, Finished, finished, Runs, IsAttemptOf}

abbrev storages : List Decl
storages = Array 1 4 ∷ Tree 2 ∷ []

abbrev item : ℕ → Key
item k = record { storage = 1; key = k }

abbrev leaf : ℕ → Key
leaf k = record { storage = 2; key = k }

abbrev at : ℕ → ℕ → Number
at e d = record { epoch = e; draw = d }

abbrev part : Key → Option ℕ → Part
part k value = record_part k (record { slot = 0; index = 0 }) (content_of (at 1 1) value)

abbrev change : Key → Option ℕ → Change
change k value = record { key = k; value = value }

-- what the only part has for a key that it covers
by_part : (p : Part) (k : Key) (value : Option ℕ) → covers p k ≡ true → (found p k).value ≡ value → Vouched (p ∷ []) k value
by_part p k value over has = record { part = p; among = in_head p []; over = over; has = has }

-- a read of an own write needs no part
own_write : Runs storages [] (Write (item 0) 7 ∷ Read (item 0) ∷ []) [] (finished Done (Value 7 ∷ []) (change (item 0) (Some 7) ∷ []))
own_write =
    let own : List Change = change (item 0) (Some 7) ∷ [] in
    let read : Runs storages [] (Read (item 0) ∷ []) own (finished Done (Value 7 ∷ []) own) = (refl, (Continues (Some (Value 7)) own, (Some 7, inl refl, refl), (finished Done [] own, refl, refl))) in
    (refl, (Continues None own, refl, (finished Done (Value 7 ∷ []) own, read, refl)))

-- 5 were read and 3 added: a read then gives 8
sum_over_a_read : Runs storages (part (item 1) (Some 5) ∷ []) (Add (item 1) 3 ∷ Read (item 1) ∷ []) [] (finished Done (Value 8 ∷ []) (change (item 1) (Some 8) ∷ []))
sum_over_a_read =
    let own : List Change = change (item 1) (Some 8) ∷ [] in
    let read : Runs storages (part (item 1) (Some 5) ∷ []) (Read (item 1) ∷ []) own (finished Done (Value 8 ∷ []) own) = (refl, (Continues (Some (Value 8)) own, (Some 8, inl refl, refl), (finished Done [] own, refl, refl))) in
    (refl, (Continues None own, (Some 5, inr (refl, by_part (part (item 1) (Some 5)) (item 1) (Some 5) refl refl), refl), (finished Done (Value 8 ∷ []) own, read, refl)))

-- 2 were read and 3 are taken: the write before it is dropped, the reply before it stays, and the operation after it does
-- not run
short : Runs storages (part (item 1) (Some 2) ∷ []) (Write (item 0) 7 ∷ Read (item 1) ∷ Take (item 1) 3 ∷ Read (item 0) ∷ []) [] (finished Short (Value 2 ∷ []) [])
short =
    let own : List Change = change (item 0) (Some 7) ∷ [] in
    let there : Vouched (part (item 1) (Some 2) ∷ []) (item 1) (Some 2) = by_part (part (item 1) (Some 2)) (item 1) (Some 2) refl refl in
    let take : Runs storages (part (item 1) (Some 2) ∷ []) (Take (item 1) 3 ∷ Read (item 0) ∷ []) own (finished Short [] []) = (refl, (Stops Short, (Some 2, inr (refl, there), refl), refl)) in
    let read : Runs storages (part (item 1) (Some 2) ∷ []) (Read (item 1) ∷ Take (item 1) 3 ∷ Read (item 0) ∷ []) own (finished Short (Value 2 ∷ []) []) = (refl, (Continues (Some (Value 2)) own, (Some 2, inr (refl, there), refl), (finished Short [] [], take, refl))) in
    (refl, (Continues None own, refl, (finished Short (Value 2 ∷ []) [], read, refl)))

-- an array key without a value has 0
array_without : Runs storages (part (item 3) None ∷ []) (Read (item 3) ∷ []) [] (finished Done (Value 0 ∷ []) [])
array_without =
    let there : Vouched (part (item 3) None ∷ []) (item 3) None = by_part (part (item 3) None) (item 3) None refl refl in
    (refl, (Continues (Some (Value 0)) [], (None, inr (refl, there), refl), (finished Done [] [], refl, refl)))

-- a read of a key that nothing vouches for is no transaction's
unread : (f : Finished) → Runs storages [] (Read (item 0) ∷ []) [] f → ⊥
unread f is = unseen is.1.1.0 is.1.1.1
  where
    unseen : (value : Option ℕ) → Sees [] [] (item 0) value → ⊥
    unseen value (inl is) = let none : None ≡ Some value = is in cc
    unseen value (inr read) = in_none read.1.part read.1.among

abbrev nothing_read : Attempt
nothing_read = record { seat = 0; number = at 1 2; parts = part (leaf 9) None ∷ []; writes = [] }

-- a key of a tree where nothing is there is removed: the attempt has the read and no write
removal_of_nothing : IsAttemptOf storages
    (record { round = 0; worker = 0; line = 0; ops = Remove (leaf 9) ∷ []; verdict = Done; number = at 1 2; replies = [] })
    nothing_read
removal_of_nothing = record {
  number = refl;
  own = [];
  runs = (refl, (Continues None [], (None, inr (refl, there), refl), (finished Done [] [], refl, refl)));
  writes = λ k. refl;
}
  where
    there : Vouched (part (leaf 9) None ∷ []) (leaf 9) None
    there = by_part (part (leaf 9) None) (leaf 9) None refl refl

-- one that the transaction wrote before is removed: that is a write, which reads nothing
removal_of_a_write : Runs storages [] (Write (leaf 9) 4 ∷ Remove (leaf 9) ∷ []) []
    (finished Done [] (change (leaf 9) None ∷ change (leaf 9) (Some 4) ∷ []))
removal_of_a_write =
    let own : List Change = change (leaf 9) (Some 4) ∷ [] in
    let end : List Change = change (leaf 9) None ∷ own in
    let remove : Runs storages [] (Remove (leaf 9) ∷ []) own (finished Done [] end) =
    (refl, (Continues None end, (Some 4, inl refl, refl), (finished Done [] end, refl, refl))) in
    (refl, (Continues None own, refl, (finished Done [] end, remove, refl)))
