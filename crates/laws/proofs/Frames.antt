-- A frame in its two parts.
use Rattle.std.proofs.Common.{◌≡◌, ℕ, List, [], ◌∷◌, ◌++◌, sym, refl, ap, ◌∙◌, append-nil}
use Rattle.rules.specs.Radio.{Radio}
use Rattle.rules.specs.State.{State, Outcome, then, each}
use Rattle.rules.specs.Message.{releases, assignments}
use Rattle.rules.specs.Events.{release_item, assign_item, assignment}
use Rattle.rules.specs.declared.item.Item.{Item}
use Rattle.rules.specs.declared.item.Item.TheVariants.{Assign, Release}
use Rattle.rules.specs.declared.item.ReadItem.{ReadItem}
use Rattle.laws.specs.Frames.{only_releases, no_releases, ReleasesFirst}

-- each part has its own items and none of the other
record Parted (is : List ReadItem) : Type 0 where
  released : releases (only_releases is) ≡ releases is
  unreleased : releases (no_releases is) ≡ []
  assigned : assignments (no_releases is) ≡ assignments is
  unassigned : assignments (only_releases is) ≡ []

parted_more : (o : ℕ) (t : Item) (is : List ReadItem) → Parted is → Parted (record { offset = o; item = t } ∷ is)
parted_more o (Assign a) is p = record { released = p.released; unreleased = p.unreleased; assigned = ap (λ as'. a ∷ as') p.assigned; unassigned = p.unassigned }
parted_more o (Release r) is p = record { released = ap (λ rs. r ∷ rs) p.released; unreleased = p.unreleased; assigned = p.assigned; unassigned = p.unassigned }

parted : (is : List ReadItem) → Parted is
parted [] = record { released = refl; unreleased = refl; assigned = refl; unassigned = refl }
parted (i ∷ is) = parted_more i.offset i.item is (parted is)

module _ {m : Radio} where
  -- nothing more is done behind it
  then_nothing : {X : Type 0} (o : Outcome m) (f : X → State m → Outcome m) → then o (each f []) ≡ o
  then_nothing o f = ap (λ rs. record { reports = rs; state = o.state }) (append-nil o.reports)

  releases_alone : (p : ℕ) (is : List ReadItem) (x : State m) → assignment p (only_releases is) x ≡ each (release_item p) (releases is) x
  releases_alone p is x =
      ap (λ as'. then (each (release_item p) (releases (only_releases is)) x) (each (assign_item p) as')) (parted is).unassigned ∙
      then_nothing (each (release_item p) (releases (only_releases is)) x) (assign_item p) ∙
      ap (λ rs. each (release_item p) rs x) (parted is).released

  others_alone : (p : ℕ) (is : List ReadItem) (x : State m) → assignment p (no_releases is) x ≡ each (assign_item p) (assignments is) x
  others_alone p is x =
      ap (λ rs. then (each (release_item p) rs x) (each (assign_item p) (assignments (no_releases is)))) (parted is).unreleased ∙
      ap (λ as'. each (assign_item p) as' x) (parted is).assigned

  -- the same first part, and the same second part from where it ends
  then_same : {o o' : Outcome m} {f f' : State m → Outcome m} → o ≡ o' → ((y : State m) → f y ≡ f' y) → then o f ≡ then o' f'
  then_same {o} {o'} {f} {f'} e same =
      ap (λ w. record { reports = o.reports ++ w.reports; state = w.state }) (same o.state) ∙ ap (λ w. then w f') e

  split : (p : ℕ) (is : List ReadItem) (x : State m) → assignment p is x ≡ then (assignment p (only_releases is) x) (assignment p (no_releases is))
  split p is x = then_same (sym (releases_alone p is x)) (λ y. sym (others_alone p is y))

pub releases_first : (m : Radio) → ReleasesFirst m
releases_first m = record {
  split = split;
  release_by_release = λ p o r is x.
      ap (λ as'. then (then (release_item p r x) (each (release_item p) (releases (only_releases is)))) (each (assign_item p) as')) (parted is).unassigned ∙
      then_nothing (then (release_item p r x) (each (release_item p) (releases (only_releases is)))) (assign_item p) ∙
      then_same refl (λ y. ap (λ rs. each (release_item p) rs y) (parted is).released ∙ sym (releases_alone p is y));
  item_by_item = λ p o a is x.
      ap (λ rs. then (each (release_item p) rs x) (each (assign_item p) (a ∷ assignments (no_releases is)))) (parted is).unreleased ∙
      then_same refl (λ y. ap (λ as'. each (assign_item p) as' y) (parted is).assigned ∙ sym (others_alone p is y));
}
