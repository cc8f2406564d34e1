-- A RAB ASSIGNMENT REQUEST: its releases first, then its other items, each of them in frame order.
use Rattle.std.specs.Prelude.{◌≡◌, ℕ, Bool, true, false, not, List, ◌∷◌, filter}
use Rattle.rules.specs.Radio.{Radio}
use Rattle.rules.specs.State.{State, then}
use Rattle.rules.specs.Events.{release_item, assign_item, assignment}
use Rattle.rules.specs.declared.item.Item.{Item}
use Rattle.rules.specs.declared.item.Item.TheVariants.{Assign, Release}
use Rattle.rules.specs.declared.item.Assignment.{Assignment}
use Rattle.rules.specs.declared.item.ReadItem.{ReadItem}

-- whether an item asks for a release
abbrev pub is_release : Item → Bool
is_release (Assign a) = false
is_release (Release r) = true

-- the releases of a frame alone
abbrev pub only_releases : List ReadItem → List ReadItem
only_releases is = filter (λ i. is_release i.item) is

-- the other items of a frame alone
abbrev pub no_releases : List ReadItem → List ReadItem
no_releases is = filter (λ i. not (is_release i.item)) is

-- frames over a kind of pool, in every state
pub record ReleasesFirst (m : Radio) : Type 0 where
  -- a frame does what a frame of its releases alone does, and then what a frame of its other items alone does
  pub split : (p : ℕ) (is : List ReadItem) (x : State m) → assignment p is x ≡ then (assignment p (only_releases is) x) (assignment p (no_releases is))
  -- of releases alone, the first goes first
  pub release_by_release : (p o r : ℕ) (is : List ReadItem) (x : State m) →
      assignment p (record { offset = o; item = Release r } ∷ only_releases is) x ≡ then (release_item p r x) (assignment p (only_releases is))
  -- of other items alone, the first goes first
  pub item_by_item : (p o : ℕ) (a : Assignment) (is : List ReadItem) (x : State m) →
      assignment p (record { offset = o; item = Assign a } ∷ no_releases is) x ≡ then (assign_item p a x) (assignment p (no_releases is))
