-- Of the reasons that apply, the one with the smallest number is given.
use Rattle.std.proofs.Common.{◌≡◌, ℕ, ◌<◌, Bool, true, false, cond, ◌⊎◌, List, [], ◌∷◌, Some, None, Ok, Err, Option, Result, sym, refl, ap, ◌∙◌, subst, inl, inr, ⊎_elim, arith}
use Rattle.std.proofs.lemmas.Bool.{and_parts, ltb-true}
use Rattle.rules.specs.Radio.{Radio}
use Rattle.rules.specs.Numbers.{reason_number}
use Rattle.rules.specs.State.{State}
use Rattle.rules.specs.Message.{Message, place_of, items_of, repeats, unless_repeated, passed, checked}
use Rattle.rules.specs.Frame.{kind_at, fault_in, broken, read_as, read, received}
use Rattle.rules.specs.Refusals.{refusal, first_reason, frame_refusal}
use Rattle.rules.specs.declared.item.FrameKind.{FrameKind}
use Rattle.rules.specs.declared.refusal.Reason.{Reason}
use Rattle.rules.specs.declared.refusal.Reason.TheVariants as reason
use Rattle.rules.specs.declared.refusal.Refusal.{Refusal}
use Rattle.laws.specs.Lists.{Among}
use Rattle.laws.specs.Reasons.{Reasons, SmallestWins, below, rising, open_reasons, frame_reasons, expiry_reasons, start_reasons, execute_reasons, withdraw_reasons, question_reasons, SmallestReasonWins}

-- nothing to refuse for
none_wins : SmallestWins [] None
none_wins = record {
  applies = λ f e. let z : ◌≡◌ {A = ℕ} 0 1 = cc in absurd (omega arith);
  smallest = λ f e r a l. absurd a;
  accepted = λ e r a. absurd a;
}

-- one more reason in front, with a smaller number than the others
in_front : (r : Bool × Reason) (p : ℕ) (rs : Reasons) (o : Option Refusal) (t : Bool) → r.0 ≡ t →
    ((s : Bool × Reason) → Among s rs → reason_number r.1 < reason_number s.1) → SmallestWins rs o → SmallestWins (r ∷ rs) (cond t (Some (refusal r.1 p)) o)
in_front r p rs o true e above h = record {
  applies = λ f g.
      let s : refusal r.1 p ≡ f = cc in
      let c : f.reason ≡ r.1 = sym (ap (λ z. z.reason) s) in
      inl (λ i. (sym e i, c i));
  smallest = λ f g s a l.
      let t : refusal r.1 p ≡ f = cc in
      let c : reason_number r.1 ≡ reason_number f.reason = ap (λ z. reason_number z.reason) t in
      ⊎_elim
      (λ same. let d : reason_number s.1 ≡ reason_number r.1 = ap (λ z. reason_number z.1) same in absurd (omega arith))
      (λ later. let d = above s later in absurd (omega arith))
      a;
  accepted = λ g s a. let z : ◌≡◌ {A = ℕ} 0 1 = cc in absurd (omega arith);
}
in_front r p rs o false e above h = record {
  applies = λ f g. inr (h.applies f g);
  smallest = λ f g s a l. ⊎_elim (λ same. ap (λ z. z.0) same ∙ e) (λ later. h.smallest f g s later l) a;
  accepted = λ g s a. ⊎_elim (λ same. ap (λ z. z.0) same ∙ e) (λ later. h.accepted g s later) a;
}

-- in a rising list all that follow are above
above_all : (r s : Bool × Reason) (rs : Reasons) → rising (r ∷ rs) ≡ true → Among s rs → reason_number r.1 < reason_number s.1
above_all r s [] e a = absurd a
above_all r s (t ∷ ts) e a =
    let p = and_parts (below r (t ∷ ts)) (rising (t ∷ ts)) e in
    let l = ltb-true (reason_number r.1) (reason_number t.1) p.0 in
    ⊎_elim
    (λ same. let d : reason_number s.1 ≡ reason_number t.1 = ap (λ z. reason_number z.1) same in omega arith)
    (λ later. let d = above_all t s ts p.1 later in omega arith)
    a

pub first_wins : (rs : Reasons) (p : ℕ) → rising rs ≡ true → SmallestWins rs (first_reason rs p)
first_wins [] p e = none_wins
first_wins (r ∷ rs) p e =
    in_front r p rs (first_reason rs p) r.0 refl (λ s a. above_all r s rs e a) (first_wins rs p (and_parts (below r rs) (rising rs) e).1)

-- the same where the first reason names another place
first_wins_at : (r : Bool × Reason) (k : ℕ) (rs : Reasons) (p : ℕ) → rising (r ∷ rs) ≡ true → SmallestWins (r ∷ rs) (cond r.0 (Some (refusal r.1 k)) (first_reason rs p))
first_wins_at r k rs p e =
    in_front r k rs (first_reason rs p) r.0 refl (λ s a. above_all r s rs e a) (first_wins rs p (and_parts (below r rs) (rising rs) e).1)

-- a frame is refused below for two reasons only
abbrev Below : Result Message Refusal → Type 0
Below (Ok g) = Unit {0}
Below (Err f) = (f.reason ≡ reason.BrokenFrame) ⊎ (f.reason ≡ reason.RepeatedRab)

repeated_below : (o : Option ℕ) (g : Message) → Below (passed (unless_repeated o) g)
repeated_below None g = tt
repeated_below (Some k) g = inr refl

checked_below : (rd : Result Message Refusal) → Below rd → Below (checked rd)
checked_below (Ok g) h = repeated_below (repeats (items_of g)) g
checked_below (Err f) h = h

read_as_below : (k : FrameKind) (o : Option ℕ) (bs : List ℕ) → Below (read_as k o bs)
read_as_below k (Some n) bs = inl refl
read_as_below k None bs = tt

read_below_at : (o : Option FrameKind) (bs : List ℕ) → Below (elim o [ None ↦ Err (broken 0) | Some k ↦ read_as k (fault_in k bs) bs ])
read_below_at None bs = inl refl
read_below_at (Some k) bs = read_as_below k (fault_in k bs) bs

read_below : (bs : List ℕ) → Below (read bs)
unfolding read
read_below bs = read_below_at (kind_at bs) bs

-- the first of a list, and what follows it
abbrev head : Reasons → Bool × Reason
head [] = (false, reason.ShortList)
head (r ∷ rs) = r

abbrev tail : Reasons → Reasons
tail [] = []
tail (r ∷ rs) = rs

module _ {m : Radio} where
  refused_below : (n k : ℕ) (x : State m) (c : Reason) → (c ≡ reason.BrokenFrame) ⊎ (c ≡ reason.RepeatedRab) →
      SmallestWins (frame_reasons n (Err (refusal c k)) x) (frame_refusal n (Err (refusal c k)) x)
  refused_below n k x c h =
      ⊎_elim
      (λ b.
      subst (λ r. SmallestWins (frame_reasons n (Err (refusal r k)) x) (frame_refusal n (Err (refusal r k)) x)) (sym b)
      (first_wins_at (head (frame_reasons n (Err (refusal reason.BrokenFrame k)) x)) 0 (tail (frame_reasons n (Err (refusal reason.BrokenFrame k)) x)) k refl))
      (λ b.
      subst (λ r. SmallestWins (frame_reasons n (Err (refusal r k)) x) (frame_refusal n (Err (refusal r k)) x)) (sym b)
      (first_wins_at (head (frame_reasons n (Err (refusal reason.RepeatedRab k)) x)) 0 (tail (frame_reasons n (Err (refusal reason.RepeatedRab k)) x)) k refl))
      h

  frame_wins : (n : ℕ) (rd : Result Message Refusal) (x : State m) → Below rd → SmallestWins (frame_reasons n rd x) (frame_refusal n rd x)
  frame_wins n (Ok g) x h = first_wins_at (head (frame_reasons n (Ok g) x)) 0 (tail (frame_reasons n (Ok g) x)) (place_of g) refl
  frame_wins n (Err f) x h = refused_below n f.place x f.reason h

pub smallest_wins : (m : Radio) → SmallestReasonWins m
smallest_wins m = record {
  listed = first_wins;
  opens = λ p u d x. first_wins (open_reasons p u d x) p refl;
  frames = λ n bs x. frame_wins n (received bs) x (checked_below (read bs) (read_below bs));
  expiries = λ n p t x. first_wins_at (head (expiry_reasons n p t x)) 0 (tail (expiry_reasons n p t x)) p refl;
  starts = λ n u x. first_wins_at (head (start_reasons n u x)) 0 (tail (start_reasons n u x)) 0 refl;
  executes = λ t x. first_wins (execute_reasons t x) 0 refl;
  withdraws = λ n t x. first_wins_at (head (withdraw_reasons n t x)) 0 (tail (withdraw_reasons n t x)) 0 refl;
  questions = λ p x. first_wins (question_reasons p x) p refl;
}
