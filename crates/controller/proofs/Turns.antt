-- The items of a frame, of either kind: their turns are those that the rules speak of.
use Rattle.std.proofs.Common.{◌≡◌, ℕ, Bool, true, false, List, [], ◌∷◌, ◌++◌, filter, not, refl, ap, ◌∙◌}
use Rattle.controller.specs.Items.{item_turn}
use Rattle.rules.specs.Events.{release_item, assign_item}
use Rattle.rules.specs.Message.{releases, assignments}
use Rattle.rules.specs.Radio.{Radio}
use Rattle.rules.specs.State.{State, Outcome, then, each}
use Rattle.rules.specs.declared.item.Assignment.{Assignment}
use Rattle.rules.specs.declared.item.Item.{Item}
use Rattle.rules.specs.declared.item.Item.TheVariants.{Assign, Release}
use Rattle.rules.specs.declared.item.ReadItem.{ReadItem}

-- the kind of an item
abbrev pub releases_rab : Item → Bool
releases_rab (Assign a) = false
releases_rab (Release r) = true

abbrev pub is_release : ReadItem → Bool
is_release i = releases_rab i.item

module _ {m : Radio} where
  then_same : {o o' : Outcome m} (f f' : State m → Outcome m) → o ≡ o' → ((y : State m) → f y ≡ f' y) → then o f ≡ then o' f'
  then_same {o} {o'} f f' e h = ap (λ w. then w f) e ∙ ap (λ q. record { reports = o'.reports ++ q.reports; state = q.state }) (h o'.state)

  -- the turn of an item that was read
  abbrev pub turn : ℕ → ReadItem → State m → Outcome m
  turn p i x = item_turn p i.item x

  release_turn : (p r : ℕ) (x : State m) → item_turn p (Release r) x ≡ release_item p r x
  unfolding release_item
  release_turn p r x = refl

  assign_turn : (p : ℕ) (a : Assignment) (x : State m) → item_turn p (Assign a) x ≡ assign_item p a x
  unfolding assign_item
  assign_turn p a x = refl

  pub release_turns : (p : ℕ) (is : List ReadItem) (x : State m) → each (turn p) (filter is_release is) x ≡ each (release_item p) (releases is) x
  release_turns p [] x = refl
  release_turns p (i ∷ is) x = by_kind i.offset i.item (release_turns p is)
    where
      by_kind : (o : ℕ) (t : Item) → ((y : State m) → each (turn p) (filter is_release is) y ≡ each (release_item p) (releases is) y) →
          each (turn p) (filter is_release (record { offset = o; item = t } ∷ is)) x ≡ each (release_item p) (releases (record { offset = o; item = t } ∷ is)) x
      by_kind o (Assign a) h = h x
      by_kind o (Release r) h = then_same (each (turn p) (filter is_release is)) (each (release_item p) (releases is)) (release_turn p r x) h

  pub assign_turns : (p : ℕ) (is : List ReadItem) (x : State m) → each (turn p) (filter (λ i. not (is_release i)) is) x ≡ each (assign_item p) (assignments is) x
  assign_turns p [] x = refl
  assign_turns p (i ∷ is) x = by_kind i.offset i.item (assign_turns p is)
    where
      by_kind : (o : ℕ) (t : Item) → ((y : State m) → each (turn p) (filter (λ i. not (is_release i)) is) y ≡ each (assign_item p) (assignments is) y) →
          each (turn p) (filter (λ i. not (is_release i)) (record { offset = o; item = t } ∷ is)) x ≡ each (assign_item p) (assignments (record { offset = o; item = t } ∷ is)) x
      by_kind o (Assign a) h = then_same (each (turn p) (filter (λ i. not (is_release i)) is)) (each (assign_item p) (assignments is)) (assign_turn p a x) h
      by_kind o (Release r) h = h x
