-- The engine of a bank begins without a page.
use Rattle.std.proofs.Common.{◌≡◌, ℕ, zero, suc, [], ◌∷◌, ◌++◌, refl, sym, ap, subst, arith}
use Rattle.std.specs.List.{AllByRecursion}
use Rattle.serial_model.specs.Decls.{AreDecls}
use Rattle.serial_model.specs.declared.decl.Decl.TheVariants.{Array}
use Rattle.snapshot_store.specs.declared.place.PagePlace.{PagePlace}
use Rattle.snapshot_store.specs.ArrayPages.{leaf_room, array_below, array_format, IsArrayPage}
use Rattle.snapshot_store.specs.Content.{deepest, RootStands}
use Rattle.snapshot_store.specs.Places.{StandsTo, Tiles}
use Rattle.engine_rule.specs.Reading.{led_places, IsOpening, RecordsAreBelow}
use Rattle.engine_pages.specs.declared.layout.Layout.{Layout}
use Rattle.page_opening.specs.Making.{CanMake}
use Rattle.bank_tellers.specs.Standing.{accounts, blank}

pub are_accounts : AreDecls accounts
are_accounts = record {
  few = omega arith;
  each = ((omega arith, omega arith, omega arith), tt);
  distinct = (tt, tt);
}

-- ---- no page

-- the place of the root, without a page
abbrev root : PagePlace
root = record { number = 0; low = 0; high = 31 }

no_leads : (d : ℕ) → led_places (Array 1 8) [] d root ≡ []
no_leads zero = refl
no_leads (suc d) = refl

nothing_below : array_below [] 0 31 ≡ []
unfolding leaf_room
nothing_below = refl

leaf_stands : (d : ℕ) → StandsTo array_format (IsArrayPage 8) [] (suc d) root
leaf_stands d = record {
  there = omega arith;
  right = record { none = λ _. refl; page = λ some. absurd (omega (arith, some)) };
  tiles = subst (Tiles 0 31) (sym nothing_below) tt;
  below = subst (AllByRecursion (StandsTo array_format (IsArrayPage 8) [] d)) (sym nothing_below) tt;
}

root_stands : RootStands [] (record { decl = Array 1 8; root = 0 })
unfolding deepest
root_stands = leaf_stands 31

opens_blank : IsOpening [] accounts (0 ∷ []) (record { epoch = 1; draw = 1 })
opens_blank = record {
  few = omega arith;
  declared = are_accounts;
  each = refl;
  stand = (root_stands, tt);
  number = record {
    some_epoch = omega arith;
    most_epoch = omega arith;
    some_draw = omega arith;
    most_draw = omega arith;
  };
  below = subst (RecordsAreBelow (record { epoch = 1; draw = 1 }) []) (sym (ap (λ l. l ++ []) (no_leads deepest))) tt;
}

can_make : CanMake blank
can_make = record {
  pages = [];
  are = refl;
  opens = opens_blank;
  some = omega arith;
  slots = omega arith;
  resident = omega arith;
  within = omega arith;
}

pub can_make_it : (l : Layout) → l ≡ blank → CanMake l
can_make_it l is = subst CanMake (sym is) can_make
