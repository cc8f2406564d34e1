-- What the tables always keep, after each change.
use Rattle.std.proofs.Common.{◌≡◌, ℕ, ◌<◌, ◌≤◌, true, false, cond, not, ◌&&◌, ◌||◌, ltb, List, [], ◌∷◌, ◌++◌, length, None, ap, ⊎_elim, arith}
use Rattle.bearers.proofs.Known.{known_without, known_with, fewer, new_append, room_for, waiting_known, at_most_one}
use Rattle.bearers.proofs.Ranges.{good_without, good_with, requests_without, requests_append}
use Rattle.bearers.proofs.Standing.{once_from, ascending_without, ascending_with}
use Rattle.bearers.proofs.Waiting.{nothing_there, apart_from, apart_to, apart_without, apart_append}
use Rattle.bearers.specs.Order.{ascending, apart, level_good, bearer_good, bearers_good, requests_good, in_range}
use Rattle.bearers.specs.View.{bearers_of, queue_of, enterable, queueable}
use Rattle.bearers.specs.declared.tables.RabTables.{RabTables}
use Rattle.rules.specs.Tables.{is_some, set_up_as, waits_as, with_bearer, without_bearer, without_request, fresh, known_in}
use Rattle.rules.specs.declared.bearer.Bearer.{Bearer}
use Rattle.rules.specs.declared.bearer.Request.{Request}
use Rattle.std.proofs.lemmas.Bool.{and_parts, and_from, not-true, or_cases, ltb-true, not_from_true}

-- two tables in order
pub record Kept (bs : List Bearer) (qs : List Request) : Type 0 where
  pub sorted : ascending bs ≡ true
  pub single : apart qs ≡ true
  pub few : known_in bs qs ≤ 64
  pub ranges : in_range bs qs ≡ true

-- so are the tables of the controller
pub held : (t : RabTables) → Kept (bearers_of t) (queue_of t)
held t = record { sorted = t.sorted; single = t.single; few = t.few; ranges = t.ranges }

module _ (bs : List Bearer) (qs : List Request) (k : Kept bs qs) where
  parts : (bearers_good bs ≡ true) × (requests_good qs ≡ true)
  parts = and_parts (bearers_good bs) (requests_good qs) k.ranges

  -- without a set-up RAB
  pub keeps_without : (p r : ℕ) → is_some (set_up_as p r bs) ≡ true → Kept (without_bearer p r bs) qs
  keeps_without p r some =
      let n = known_without p r bs qs (once_from bs k.sorted) (apart_from qs k.single) some in
      record {
        sorted = ascending_without p r bs k.sorted;
        single = k.single;
        few = omega (arith, n, k.few);
        ranges = and_from (bearers_good (without_bearer p r bs)) (requests_good qs) (good_without p r bs parts.0) parts.1;
      }

  -- without a request
  pub keeps_left : (p r : ℕ) → Kept bs (without_request p r qs)
  keeps_left p r =
      let n = fewer bs p r qs in
      record {
        sorted = k.sorted;
        single = apart_to (without_request p r qs) (apart_without p r qs (apart_from qs k.single));
        few = omega (arith, n, k.few);
        ranges = and_from (bearers_good bs) (requests_good (without_request p r qs)) parts.0 (requests_without p r qs parts.1);
      }

  module _ (b : Bearer) (e : enterable b bs qs ≡ true) where
    enter_parts : (bearer_good b ≡ true) × (set_up_as b.place b.rab bs ≡ None) × (waits_as b.place b.rab qs ≡ None) × (known_in bs qs < 64)
    enter_parts =
        let u = not (is_some (set_up_as b.place b.rab bs)) in
        let w = not (is_some (waits_as b.place b.rab qs)) in
        let a = and_parts (bearer_good b && u && w) (ltb (known_in bs qs) 64) e in
        let c = and_parts (bearer_good b && u) w a.0 in
        let d = and_parts (bearer_good b) u c.0 in (
          d.0,
          nothing_there (set_up_as b.place b.rab bs) (not-true (is_some (set_up_as b.place b.rab bs)) d.1),
          nothing_there (waits_as b.place b.rab qs) (not-true (is_some (waits_as b.place b.rab qs)) c.1),
          ltb-true (known_in bs qs) 64 a.1,
        )

    -- a table into which a RAB may be entered is not full
    pub enters_room : length bs < 64
    enters_room = omega (arith, enter_parts.3)

    -- with a RAB that may be entered
    pub keeps_with : Kept (with_bearer b bs) qs
    keeps_with =
        let n = known_with b bs qs enter_parts.1 enter_parts.2 in
        record {
          sorted = ascending_with b bs enter_parts.1 k.sorted;
          single = k.single;
          few = omega (arith, n, enter_parts.3);
          ranges = and_from (bearers_good (with_bearer b bs)) (requests_good qs) (good_with b bs enter_parts.0 parts.0) parts.1;
        }

  module _ (q : Request) (e : queueable q bs qs ≡ true) where
    queue_parts : (level_good q.priority ≡ true) × (waits_as q.place q.rab qs ≡ None) × ((is_some (set_up_as q.place q.rab bs) || ltb (known_in bs qs) 64) ≡ true)
    queue_parts =
        let w = not (is_some (waits_as q.place q.rab qs)) in
        let s = is_some (set_up_as q.place q.rab bs) || ltb (known_in bs qs) 64 in
        let a = and_parts (level_good q.priority && w) s e in
        let c = and_parts (level_good q.priority) w a.0 in
        (c.0, nothing_there (waits_as q.place q.rab qs) (not-true (is_some (waits_as q.place q.rab qs)) c.1), a.1)

    -- the queue after it: at most 64 known, and fewer than 64 waiting before it
    counts : (known_in bs (qs ++ q ∷ []) ≤ 64) × (length qs < 64)
    counts =
        let n = new_append bs q qs in
        let ok = apart_from qs k.single in
        ⊎_elim
        (λ s.
        let f : fresh bs q ≡ false = not_from_true (is_some (set_up_as q.place q.rab bs)) s in
        let z : ◌≡◌ {A = ℕ} (cond (fresh bs q) 1 0) 0 = ap (λ b. cond {A = ℕ} b 1 0) f in
        let r = room_for q bs qs ok queue_parts.1 f in
        (omega (arith, n, z, k.few), omega (arith, r, k.few)))
        (λ s.
        let l : known_in bs qs < 64 = ltb-true (known_in bs qs) 64 s in
        let z = at_most_one (fresh bs q) in
        let w = waiting_known bs qs ok in
        (omega (arith, n, z, l), omega (arith, w, l)))
        (or_cases (is_some (set_up_as q.place q.rab bs)) (ltb (known_in bs qs) 64) queue_parts.2)

    pub queues_room : length qs < 64
    queues_room = counts.1

    -- with a request that may be queued
    pub keeps_queued : Kept bs (qs ++ q ∷ [])
    keeps_queued = record {
      sorted = k.sorted;
      single = apart_to (qs ++ q ∷ []) (apart_append q qs (apart_from qs k.single) queue_parts.1);
      few = counts.0;
      ranges = and_from (bearers_good bs) (requests_good (qs ++ q ∷ [])) parts.0 (requests_append q qs queue_parts.0 parts.1);
    }
