-- Worked runs of a new controller over a rate pool of 10, with UE 7 on place 0 in the packet domain.
use Rattle.std.specs.Prelude.{◌≡◌, ℕ, true, false, List, [], ◌∷◌, Some, None}
use Rattle.rules.specs.Grants.{nothing}
use Rattle.rules.specs.State.{State, silent}
use Rattle.rules.specs.Frame.{received}
use Rattle.rules.specs.Refusals.{frame_refusal}
use Rattle.rules.specs.declared.refusal.Reason.TheVariants.{BrokenFrame}
use Rattle.admission.specs.Rate.{rates, fresh}
use Rattle.admission.specs.Tree.{codes}
use Rattle.shown.specs.Pools.{four}
use Rattle.shown.specs.Steps.{asking, releasing, begin, on, told, held, waiting}

-- the start of the runs
abbrev pub ten : State rates
ten = begin rates (fresh 10)

-- RAB 5 is to be set up: size 8, level 3, all rights
abbrev pub frame_1 : List ℕ
frame_1 = 0x01 ∷ 0x00 ∷ 0x00 ∷ 0x01 ∷ 0x00 ∷ 0x08 ∷ 0x00 ∷ 0x06 ∷ 0x01 ∷ 0x05 ∷ 0x1B ∷ 0x08 ∷ 0x03 ∷ 0x07 ∷ []

-- the state after it
abbrev pub after_1 : State rates
after_1 = (on frame_1 ten).state

-- then RAB 6 is asked for with size 3 and the right to wait, and waits
abbrev pub after_2 : State rates
after_2 = (on (asking 0 6 3 3 4) after_1).state

-- two set-up items of 6 bytes, for RABs 5 and 6: the first at 12, the second, as its pair says, at the given offset
abbrev pub two_items : ℕ → List ℕ
two_items at' =
    1 ∷ 0 ∷ 0 ∷ 2 ∷ 0 ∷ 12 ∷ 0 ∷ 6 ∷ 0 ∷ at' ∷ 0 ∷ 6 ∷ 1 ∷ 5 ∷ 0x1B ∷ 1 ∷ 3 ∷ 0 ∷ 1 ∷ 6 ∷ 0x1B ∷ 1 ∷ 3 ∷ 0 ∷ []

-- what is told in these runs, and who holds which grant after them
pub record ShownRuns : Type 0 where
  -- RAB 5 is set up
  pub run_1_asks : frame_1 ≡ asking 0 5 8 3 7
  pub run_1 : told (on frame_1 ten) ≡ (1, 0, 5, 0, 8) ∷ []
  pub run_1_held : held after_1 ≡ (0, 5, 0, 8) ∷ []
  -- then 2 are left: RAB 6 is set up with size 2; with size 3 it waits
  pub run_2_small : told (on (asking 0 6 2 3 0) after_1) ≡ (1, 0, 6, 0, 2) ∷ []
  pub run_2_small_held : held (on (asking 0 6 2 3 0) after_1).state ≡ (0, 5, 0, 8) ∷ (0, 6, 1, 2) ∷ []
  pub run_2_large : told (on (asking 0 6 3 3 4) after_1) ≡ (2, 0, 6, 0, 0) ∷ []
  pub run_2_waits : waiting after_2 ≡ (0, 6, 3) ∷ []
  -- while it waits RAB 5 is released: RAB 6 is served, and gets the grant number that became free
  pub run_3 : told (on (releasing 0 5) after_2) ≡ (4, 0, 5, 0, 0) ∷ (1, 0, 6, 0, 3) ∷ []
  pub run_3_held : held (on (releasing 0 5) after_2).state ≡ (0, 6, 0, 3) ∷ []
  -- or, while it waits, RAB 6 is asked for again: the waiting request fails, the new one is done
  pub run_4 : told (on (asking 0 6 2 3 0) after_2) ≡ (3, 0, 6, 9, 0) ∷ (1, 0, 6, 0, 2) ∷ []
  pub run_4_waits : waiting (on (asking 0 6 2 3 0) after_2).state ≡ []
  -- RAB 9 with the right to trigger pre-empts RAB 5 from level 2, and not from RAB 5's own level 3
  pub run_5_higher : told (on (asking 0 9 4 2 1) after_1) ≡ (6, 0, 5, 1, 0) ∷ (1, 0, 9, 0, 4) ∷ []
  pub run_5_higher_held : held (on (asking 0 9 4 2 1) after_1).state ≡ (0, 9, 0, 4) ∷ []
  pub run_5_equal : told (on (asking 0 9 4 3 1) after_1) ≡ (3, 0, 9, 6, 0) ∷ []
  -- a code tree that took 64, 64, 64 and 1 admits 32 and not 33
  pub run_6_fits : codes.admits four nothing 32 ≡ true
  pub run_6_not : codes.admits four nothing 33 ≡ false
  -- the second item right behind the first is read; one byte earlier it overlaps the first, and its pair, at 8, is the fault
  pub run_7_read : frame_refusal 288 (received (two_items 18)) ten ≡ None
  pub run_7_told : told (on (two_items 18) ten) ≡ (1, 0, 5, 0, 1) ∷ (1, 0, 6, 0, 1) ∷ []
  pub run_7_refused : frame_refusal 288 (received (two_items 17)) ten ≡ Some (record { reason = BrokenFrame; place = 8 })
  pub run_7_nothing : on (two_items 17) ten ≡ silent ten
