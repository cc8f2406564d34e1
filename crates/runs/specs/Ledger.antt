-- The book's pages for RABs: requests and final outcomes, who waits for which size, who is set up with which grant number and size.
-- They are fed with items and reports, and never with the controller's state.
use Rattle.std.specs.Prelude.{ℕ, ◌+◌, Bool, true, false, cond, not, ◌&&◌, ◌||◌, List, [], ◌∷◌, Some, None, Option, ◌==◌, nat_le}
use Rattle.rules.specs.Numbers.{cause_number}
use Rattle.rules.specs.Tables.{is_some, first_from}
use Rattle.rules.specs.Message.{rab_of}
use Rattle.rules.specs.declared.item.Item.TheVariants.{Assign, Release}
use Rattle.rules.specs.declared.item.Assignment.{Assignment}
use Rattle.rules.specs.declared.item.ReadItem.{ReadItem}
use Rattle.rules.specs.declared.report.Report.{Report}
use Rattle.rules.specs.declared.report.ReportKind.{ReportKind}
use Rattle.rules.specs.declared.report.ReportKind.TheVariants.{Done, Queued, Failed, Released, NotReleased, ReleaseRequested, Gone, RelocationRequired, RelocationCancel}

-- what the book keeps of RABs, each named by place and RAB ID
pub record Ledger : Type 0 where
  -- how many requests were made for the RAB
  pub requests : ℕ → ℕ → ℕ
  -- how many final outcomes were reported for the RAB
  pub outcomes : ℕ → ℕ → ℕ
  -- the size that the RAB waits for, if it waits
  pub waiting : ℕ → ℕ → Option ℕ
  -- the grant number and the size of the RAB, if it is set up
  pub bearing : ℕ → ℕ → Option (ℕ × ℕ)
  -- the grant numbers that are not free
  pub used : ℕ → Bool
  -- how many modifications to the size in use or less were queued, or failed with cause 6
  pub denied : ℕ

-- the pages are empty at first
abbrev pub no_rabs : Ledger
no_rabs = record { requests = λ _ _. 0; outcomes = λ _ _. 0; waiting = λ _ _. None; bearing = λ _ _. None; used = λ _. false; denied = 0 }

-- a function, but with another value at one number
abbrev pub write : {X : Type 0} → (ℕ → X) → ℕ → X → ℕ → X
write f i v k = cond (k == i) v (f k)

-- a function, but with another value at one place and RAB ID
abbrev pub write_rab : {X : Type 0} → (ℕ → ℕ → X) → ℕ → ℕ → X → ℕ → ℕ → X
write_rab f p r v k j = cond (k == p && j == r) v (f k j)

-- the used numbers once the number of a RAB is free, if it has one
abbrev pub freed : (ℕ → Bool) → Option (ℕ × ℕ) → ℕ → Bool
freed f None = f
freed f (Some o) = write f o.0 false

-- the smallest free number, from 0 up
abbrev pub smallest_free : (ℕ → Bool) → ℕ
smallest_free f = first_from (λ g. not (f g)) 0 64

-- the set-up or modify item of a RAB ID in a frame, if there is one
abbrev pub asked : ℕ → List ReadItem → Option Assignment
asked r [] = None
asked r (i ∷ is) = elim i.item [ Assign a ↦ cond (a.rab == r) (Some a) (asked r is) | Release k ↦ asked r is ]

-- the item of the RAB with ID r at place k, in a frame for place p: none where the frame is for another place
abbrev pub asked_at : ℕ → ℕ → ℕ → List ReadItem → Option Assignment
asked_at p r k is = cond (p == k) (asked r is) None

-- whether there is an item, with flag 0
abbrev pub with_parameters : Option Assignment → Bool
with_parameters None = false
with_parameters (Some a) = a.flags.parameters

-- the size of the item
abbrev pub size_asked : Option Assignment → ℕ
size_asked None = 0
size_asked (Some a) = a.size

-- 1 for a modification to the size in use or less, otherwise 0
abbrev pub trades_down : Option (ℕ × ℕ) → Option Assignment → ℕ
trades_down None a = 0
trades_down (Some o) a = cond (nat_le (size_asked a) o.1) 1 0

-- a final outcome is counted, and the RAB waits no more
abbrev pub settle : ℕ → ℕ → Ledger → Ledger
settle p r b = record {
  requests = b.requests;
  outcomes = write_rab b.outcomes p r (b.outcomes p r + 1);
  waiting = write_rab b.waiting p r None;
  bearing = b.bearing;
  used = b.used;
  denied = b.denied;
}

-- the RAB is not set up, and its number is free
abbrev pub unset : ℕ → ℕ → Ledger → Ledger
unset p r b = record {
  requests = b.requests;
  outcomes = b.outcomes;
  waiting = b.waiting;
  bearing = write_rab b.bearing p r None;
  used = freed b.used (b.bearing p r);
  denied = b.denied;
}

-- the RAB is set up with a size: its number, if it had one, is free, and it gets the smallest free number
abbrev pub take_number : ℕ → ℕ → ℕ → Ledger → Ledger
take_number p r s b =
    let f = freed b.used (b.bearing p r) in
    record {
      requests = b.requests;
      outcomes = b.outcomes;
      waiting = b.waiting;
      bearing = write_rab b.bearing p r (Some (smallest_free f, s));
      used = write f (smallest_free f) true;
      denied = b.denied;
    }

-- the same number, with a size
abbrev pub resized : ℕ → Option (ℕ × ℕ) → Option (ℕ × ℕ)
resized s None = None
resized s (Some o) = Some (o.0, s)

-- the RAB is set up with a size, under the number that it has
abbrev pub keep_number : ℕ → ℕ → ℕ → Ledger → Ledger
keep_number p r s b = record {
  requests = b.requests;
  outcomes = b.outcomes;
  waiting = b.waiting;
  bearing = write_rab b.bearing p r (resized s (b.bearing p r));
  used = b.used;
  denied = b.denied;
}

-- the RAB waits for a size
abbrev pub wait : ℕ → ℕ → ℕ → Ledger → Ledger
wait p r s b = record {
  requests = b.requests;
  outcomes = b.outcomes;
  waiting = write_rab b.waiting p r (Some s);
  bearing = b.bearing;
  used = b.used;
  denied = b.denied;
}

-- so many more modifications to the size in use or less were denied
abbrev pub deny : ℕ → Ledger → Ledger
deny n b = record {
  requests = b.requests;
  outcomes = b.outcomes;
  waiting = b.waiting;
  bearing = b.bearing;
  used = b.used;
  denied = b.denied + n;
}

-- one request more for the RAB
abbrev pub count_request : ℕ → ℕ → Ledger → Ledger
count_request p r b = record {
  requests = write_rab b.requests p r (b.requests p r + 1);
  outcomes = b.outcomes;
  waiting = b.waiting;
  bearing = b.bearing;
  used = b.used;
  denied = b.denied;
}

-- what a report of a kind means, with the item of its RAB in the frame of this call, if there is one
abbrev pub take_kind : ReportKind → Report → Option Assignment → Ledger → Ledger
take_kind Done r a b =
    settle r.place r.rab (cond (is_some (b.waiting r.place r.rab) || with_parameters a)
    (take_number r.place r.rab r.size b)
    (keep_number r.place r.rab r.size b))
take_kind Queued r a b = wait r.place r.rab (size_asked a) (deny (trades_down (b.bearing r.place r.rab) a) b)
take_kind Failed r a b = settle r.place r.rab (deny (cond (cause_number r.cause == 6) (trades_down (b.bearing r.place r.rab) a) 0) b)
take_kind Released r a b = settle r.place r.rab (unset r.place r.rab b)
take_kind NotReleased r a b = settle r.place r.rab b
take_kind ReleaseRequested r a b = unset r.place r.rab b
take_kind Gone r a b = unset r.place r.rab b
take_kind RelocationRequired r a b = b
take_kind RelocationCancel r a b = b

-- the reports of a call are taken in their order, with the place and the items of its frame
abbrev pub take_reports : ℕ → List ReadItem → List Report → Ledger → Ledger
take_reports p is [] b = b
take_reports p is (r ∷ rs) b = take_reports p is rs (take_kind r.kind r (asked_at p r.rab r.place is) b)

-- each item of a frame for a place is a request for its RAB
abbrev pub count_requests : ℕ → List ReadItem → Ledger → Ledger
count_requests p [] b = b
count_requests p (i ∷ is) b = count_requests p is (count_request p (rab_of i.item) b)
