-- The calls over a carried pool: each is answered as it was, and does what it did, carried.
use Rattle.std.proofs.Common.{◌≡◌, ℕ, Bool, not, [], ◌∷◌, length, Some, None, Ok, Err, Option, Result, refl, ap, ◌∙◌, ap₂}
use Rattle.rules.specs.Radio.{Radio}
use Rattle.rules.specs.Numbers.{domain_of, timer_of}
use Rattle.rules.specs.State.{State, Outcome, silent}
use Rattle.rules.specs.Tables.{is_some}
use Rattle.rules.specs.Timers.{timer_runs, expires}
use Rattle.rules.specs.Message.{Message}
use Rattle.rules.specs.Relocation.{ticket_at, runs, ready, cancel_all, give_back, execute_of, execute, withdraw_of, withdraw, start}
use Rattle.rules.specs.Refusals.{first_reason, unless_short, bad_place, foreign, open_refusal, received_refusal, frame_refusal, expiry_refusal, start_refusal, execute_refusal, withdraw_refusal}
use Rattle.rules.specs.Calls.{answer, unless_refused, opens, open_outcome, handled_of, frame_outcome, frame_answer, expiry_outcome, expiry_answer, next_ticket, start_outcome, start_answer, execute_outcome, execute_answer, withdraw_outcome, withdraw_answer}
use Rattle.rules.specs.declared.connection.Domain.{Domain}
use Rattle.rules.specs.declared.connection.TicketId.{TicketId}
use Rattle.rules.specs.declared.connection.TicketRecord.{TicketRecord}
use Rattle.rules.specs.declared.connection.Timer.{Timer}
use Rattle.rules.specs.declared.connection.Timer.TheVariants.{Tqueuing, Trelocprep}
use Rattle.rules.specs.declared.refusal.Reason.TheVariants as reason
use Rattle.rules.specs.declared.refusal.Refusal.{Refusal}
use Rattle.rules.specs.declared.report.Cause.TheVariants as cause
use Rattle.laws.specs.Carried.{carried, carried_outcome, PoolsAlike, CallsAlike, CarriedAlike}
use Rattle.laws.proofs.Carried.{chosen, then_alike, handled_alike, new_alike}

module _ (m w : Radio) (into : m.State → w.State) where
  abbrev over : State m → State w
  over x = carried m w into x

  abbrev out : Outcome m → Outcome w
  out o = carried_outcome m w into o

  -- what stands against a call
  unless_refused_alike : (r : Option Refusal) (o' : Outcome w) (o : Outcome m) (x : State m) → o' ≡ out o → unless_refused r o' (over x) ≡ out (unless_refused r o x)
  unless_refused_alike None o' o x e = e
  unless_refused_alike (Some f) o' o x e = refl

  received_refusal_same : (rd : Result Message Refusal) (x : State m) → received_refusal rd (over x) ≡ received_refusal rd x
  received_refusal_same (Err f) x = refl
  received_refusal_same (Ok g) x = refl

  frame_refusal_same : (n : ℕ) (rd : Result Message Refusal) (x : State m) → frame_refusal n rd (over x) ≡ frame_refusal n rd x
  frame_refusal_same n rd x = ap (unless_short n) (received_refusal_same rd x)

  timer_runs_same : (o : Option Timer) (p : ℕ) (x : State m) → timer_runs o p (over x) ≡ timer_runs o p x
  timer_runs_same None p x = refl
  timer_runs_same (Some Tqueuing) p x = refl
  timer_runs_same (Some Trelocprep) p x = refl

  expiry_refusal_same : (n p t : ℕ) (x : State m) → expiry_refusal n p t (over x) ≡ expiry_refusal n p t x
  expiry_refusal_same n p t x =
      ap (λ r. unless_short n (first_reason (
      (bad_place p x, reason.BadPlace) ∷ (not (is_some (timer_of t)), reason.BadCode) ∷ (not r, reason.NotRunning) ∷ []) p))
      (timer_runs_same (timer_of t) p x)

  ready_same : (o : Option TicketRecord) (x : State m) → ready o (over x) ≡ ready o x
  ready_same None x = refl
  ready_same (Some t) x = refl

  execute_refusal_same : (t : TicketId) (x : State m) → execute_refusal t (over x) ≡ execute_refusal t x
  execute_refusal_same t x =
      ap (λ r. first_reason ((foreign t x, reason.ForeignTicket) ∷ (not r, reason.NotPrepared) ∷ []) 0) (ready_same (ticket_at t.number x) x)

  -- what an obeyed call does
  opens_alike : (d : Option Domain) (p u : ℕ) (x : State m) → opens d p u (over x) ≡ out (opens d p u x)
  opens_alike None p u x = refl
  opens_alike (Some d) p u x = refl

  expires_alike : (o : Option Timer) (p : ℕ) (x : State m) → expires o p (over x) ≡ out (expires o p x)
  expires_alike None p x = refl
  expires_alike (Some Tqueuing) p x = refl
  expires_alike (Some Trelocprep) p x = refl

  start_alike : (u : ℕ) (x : State m) → start u (over x) ≡ out (start u x)
  unfolding start
  start_alike u x = refl

  execute_of_alike : (o : Option TicketRecord) (x : State m) → execute_of o (over x) ≡ over (execute_of o x)
  execute_of_alike None x = refl
  execute_of_alike (Some t) x = refl

  execute_alike : (i : ℕ) (x : State m) → execute i (over x) ≡ over (execute i x)
  execute_alike i x = ap (give_back i) (execute_of_alike (ticket_at i x) x)

  withdraw_of_alike : (o : Option TicketRecord) (x : State m) → withdraw_of o (over x) ≡ out (withdraw_of o x)
  withdraw_of_alike None x = refl
  withdraw_of_alike (Some t) x =
      chosen m w into t.running
      (cancel_all cause.RelocationCancelled t.ue (over x)) (silent (over x)) (cancel_all cause.RelocationCancelled t.ue x) (silent x)
      refl refl

  withdraw_alike : (i : ℕ) (x : State m) → withdraw i (over x) ≡ out (withdraw i x)
  withdraw_alike i x =
      then_alike m w into (withdraw_of (ticket_at i x) (over x)) (withdraw_of (ticket_at i x) x) (λ y. silent (give_back i y)) (λ y. silent (give_back i y))
      (withdraw_of_alike (ticket_at i x) x) (λ y. refl)

  -- the calls
  open_does : (p u d : ℕ) (x : State m) → open_outcome p u d (over x) ≡ out (open_outcome p u d x)
  open_does p u d x =
      unless_refused_alike (open_refusal p u d x) (opens (domain_of d) p u (over x)) (opens (domain_of d) p u x) x (opens_alike (domain_of d) p u x)

  expiry_does : (n p t : ℕ) (x : State m) → expiry_outcome n p t (over x) ≡ out (expiry_outcome n p t x)
  expiry_does n p t x =
      ap (λ r. unless_refused r (expires (timer_of t) p (over x)) (over x)) (expiry_refusal_same n p t x) ∙
      unless_refused_alike (expiry_refusal n p t x) (expires (timer_of t) p (over x)) (expires (timer_of t) p x) x (expires_alike (timer_of t) p x)

  expiry_answered : (n p t : ℕ) (x : State m) → expiry_answer n p t (over x) ≡ expiry_answer n p t x
  expiry_answered n p t x = ap₂ answer (expiry_refusal_same n p t x) (ap (λ o. length (Outcome.reports o)) (expiry_does n p t x))

  start_does : (n u : ℕ) (x : State m) → start_outcome n u (over x) ≡ out (start_outcome n u x)
  start_does n u x = unless_refused_alike (start_refusal n u x) (start u (over x)) (start u x) x (start_alike u x)

  start_answered : (n u : ℕ) (x : State m) → start_answer n u (over x) ≡ start_answer n u x
  start_answered n u x = ap (λ o. answer {A = TicketId × ℕ} (start_refusal n u x) (next_ticket x, length (Outcome.reports o))) (start_does n u x)

  execute_does : (t : TicketId) (x : State m) → execute_outcome t (over x) ≡ out (execute_outcome t x)
  execute_does t x =
      ap (λ r. unless_refused r (silent (execute t.number (over x))) (over x)) (execute_refusal_same t x) ∙
      unless_refused_alike (execute_refusal t x) (silent (execute t.number (over x))) (silent (execute t.number x)) x (ap silent (execute_alike t.number x))

  execute_answered : (t : TicketId) (x : State m) → execute_answer t (over x) ≡ execute_answer t x
  execute_answered t x = ap (λ r. answer {A = Unit {0}} r tt) (execute_refusal_same t x)

  withdraw_does : (n : ℕ) (t : TicketId) (x : State m) → withdraw_outcome n t (over x) ≡ out (withdraw_outcome n t x)
  withdraw_does n t x =
      unless_refused_alike (withdraw_refusal n t x) (withdraw t.number (over x)) (withdraw t.number x) x (withdraw_alike t.number x)

  withdraw_answered : (n : ℕ) (t : TicketId) (x : State m) → withdraw_answer n t (over x) ≡ withdraw_answer n t x
  withdraw_answered n t x =
      ap (λ o. answer {A = Bool × ℕ} (withdraw_refusal n t x) (runs (ticket_at t.number x), length (Outcome.reports o))) (withdraw_does n t x)

  module _ (alike : PoolsAlike m w into) where
    handled_of_alike : (rd : Result Message Refusal) (x : State m) → handled_of rd (over x) ≡ out (handled_of rd x)
    handled_of_alike (Err f) x = refl
    handled_of_alike (Ok g) x = handled_alike m w into alike g x

    frame_does : (n : ℕ) (rd : Result Message Refusal) (x : State m) → frame_outcome n rd (over x) ≡ out (frame_outcome n rd x)
    frame_does n rd x =
        ap (λ r. unless_refused r (handled_of rd (over x)) (over x)) (frame_refusal_same n rd x) ∙
        unless_refused_alike (frame_refusal n rd x) (handled_of rd (over x)) (handled_of rd x) x (handled_of_alike rd x)

    frame_answered : (n : ℕ) (rd : Result Message Refusal) (x : State m) → frame_answer n rd (over x) ≡ frame_answer n rd x
    frame_answered n rd x = ap₂ answer (frame_refusal_same n rd x) (ap (λ o. length (Outcome.reports o)) (frame_does n rd x))

    pub calls_alike : CallsAlike m w into
    calls_alike = record {
      open_answered = λ p u d x. refl;
      open_does = open_does;
      frame_answered = frame_answered;
      frame_does = frame_does;
      expiry_answered = expiry_answered;
      expiry_does = expiry_does;
      start_answered = start_answered;
      start_does = start_does;
      execute_answered = execute_answered;
      execute_does = execute_does;
      withdraw_answered = withdraw_answered;
      withdraw_does = withdraw_does;
      rab_answered = λ p r x. refl;
      made = new_alike m w into alike;
    }

pub carried_alike : (m w : Radio) → CarriedAlike m w
carried_alike m w into alike = calls_alike m w into alike
