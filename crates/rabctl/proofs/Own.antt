-- Each line to a cabinet is answered as by a controller over its own pool alone.
use Rattle.std.proofs.Common.{◌≡◌, ℕ, inl, inr, refl, ap}
use Rattle.admission.specs.Rate.{rates, fresh}
use Rattle.admission.specs.Tree.{codes, bare}
use Rattle.laws.specs.Carried.{carried, CallsAlike}
use Rattle.laws.proofs.Calls.{carried_alike}
use Rattle.rabctl.specs.Cabinets.{pools}
use Rattle.rabctl.specs.Either.{Alone}
use Rattle.rabctl.specs.Grants.{named_set}
use Rattle.rabctl.specs.Own.{LineAlone, LinesAlone}
use Rattle.rabctl.specs.Replies.{answered, at_cabinet, left_at, told_at}
use Rattle.rabctl.specs.declared.answer.Answer.TheVariants as answer
use Rattle.rabctl.proofs.Alone.{first, second}
use Rattle.rules.specs.Frame.{received}
use Rattle.rules.specs.Radio.{Radio}
use Rattle.rules.specs.State.{State, Outcome}
use Rattle.script.specs.Saying.{Saying, skips, makes, opens, hands, expires, starts, executes, withdraws, asks_rab, asks_grant, asks_room, shows}

module _ (own : Radio) (into : own.State → pools.State) (alone : Alone own pools into) where
  calls : CallsAlike own pools into
  calls = carried_alike own pools into record { held = alone.held; admitted = alone.admitted; take_leaves = alone.take_leaves; give_leaves = alone.give_leaves }

  abbrev over : State own → State pools
  over x = carried own pools into x

  answers : (n : ℕ) (x : State own) (s : Saying) → at_cabinet n (over x) s ≡ at_cabinet n x s
  answers n x skips = refl
  answers n x (makes number pool) = refl
  answers n x (hands bytes) = ap (answered answer.Frame) (calls.frame_answered n (received bytes) x)
  answers n x (opens place ue domain) = ap (answered (λ _. answer.Opened)) (calls.open_answered place ue domain x)
  answers n x (expires place timer) = ap (answered answer.Expiry) (calls.expiry_answered n place timer x)
  answers n x (starts ue) = refl
  answers n x (executes ticket) = refl
  answers n x (withdraws ticket) = refl
  answers n x (asks_rab place rab) = ap (answered answer.Rab) (calls.rab_answered place rab x)
  answers n x (asks_grant grant) = ap (λ size. answer.Held size) (alone.held x.pool grant)
  answers n x (asks_room size named) = ap (λ admitted. answer.Room admitted) (alone.admitted x.pool (named_set named) size)
  answers n x shows = refl

  leaves : (n : ℕ) (x : State own) (s : Saying) → left_at n (over x) s ≡ over (left_at n x s)
  leaves n x skips = refl
  leaves n x (makes number pool) = refl
  leaves n x (hands bytes) = ap (λ o. Outcome.state o) (calls.frame_does n (received bytes) x)
  leaves n x (opens place ue domain) = ap (λ o. Outcome.state o) (calls.open_does place ue domain x)
  leaves n x (expires place timer) = ap (λ o. Outcome.state o) (calls.expiry_does n place timer x)
  leaves n x (starts ue) = refl
  leaves n x (executes ticket) = refl
  leaves n x (withdraws ticket) = refl
  leaves n x (asks_rab place rab) = refl
  leaves n x (asks_grant grant) = refl
  leaves n x (asks_room size named) = refl
  leaves n x shows = refl

  tells : (n : ℕ) (x : State own) (s : Saying) → told_at n (over x) s ≡ told_at n x s
  tells n x skips = refl
  tells n x (makes number pool) = refl
  tells n x (hands bytes) = ap (λ o. Outcome.reports o) (calls.frame_does n (received bytes) x)
  tells n x (opens place ue domain) = refl
  tells n x (expires place timer) = ap (λ o. Outcome.reports o) (calls.expiry_does n place timer x)
  tells n x (starts ue) = refl
  tells n x (executes ticket) = refl
  tells n x (withdraws ticket) = refl
  tells n x (asks_rab place rab) = refl
  tells n x (asks_grant grant) = refl
  tells n x (asks_room size named) = refl
  tells n x shows = refl

  line_alone : LineAlone own into
  line_alone = record { answer = answers; state = leaves; list = tells }

pub lines_alone : LinesAlone
lines_alone = record {
  rate = line_alone rates inl (first rates codes);
  tree = line_alone codes inr (second rates codes);
  new_rate = λ number capacity. (calls rates inl (first rates codes)).made number (fresh capacity);
  new_tree = λ number. (calls codes inr (second rates codes)).made number bare;
}
