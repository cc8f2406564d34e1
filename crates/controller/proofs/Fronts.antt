-- The search for the shortest front of the candidates, one RAB or one level further.
use Rattle.std.proofs.Common.{◌≡◌, ℕ, zero, suc, ◌+◌, ◌-◌, ◌<◌, ◌≤◌, Bool, true, false, cond, leb, ltb, List, [], ◌∷◌, ◌++◌, length, get_or, drop, Some, None, filter, Option, sym, refl, ap, ◌∙◌, subst, arith}
use Rattle.admission.specs.Member.{inserted}
use Rattle.bearers.specs.Order.{bearer_good, level_good}
use Rattle.controller.specs.Chosen.{front_for}
use Rattle.rules.specs.Grants.{added}
use Rattle.rules.specs.Preemption.{own, own_grant, and_also, candidate, candidates_from, candidates, shortest_front}
use Rattle.rules.specs.Radio.{Radio}
use Rattle.rules.specs.State.{State}
use Rattle.rules.specs.declared.bearer.Bearer.{Bearer}
use Rattle.rules.specs.declared.bearer.Request.{Request}
use Rattle.std.proofs.lemmas.List.{at_drop_more, at_drop_all, append_assoc, length-append}
use Rattle.std.proofs.lemmas.Bool.{and_parts}
use Rattle.std.proofs.lemmas.Bool.Decides.{nat_tests}

-- some in front of what a search finds
abbrev pub in_front : List Bearer → Option (List Bearer) → Option (List Bearer)
in_front cs None = None
in_front cs (Some vs) = Some (cs ++ vs)

also_front : (cs : List Bearer) (b : Bearer) (o : Option (List Bearer)) → in_front cs (and_also b o) ≡ in_front (cs ++ b ∷ []) o
also_front cs b None = refl
also_front cs b (Some vs) = ap Some (sym (append_assoc cs (b ∷ []) vs))

pub front_nothing : (o : Option (List Bearer)) → in_front [] o ≡ o
front_nothing None = refl
front_nothing (Some vs) = refl

module _ {m : Radio} (x : State m) (s : ℕ) where
  front_at : (n : ℕ → Bool) (cs : List Bearer) (b : Bearer) (rest : List Bearer) (t : Bool) → m.admits x.pool (added n b.grant) s ≡ t →
      in_front cs (shortest_front x n s (b ∷ rest)) ≡ in_front cs (cond t (Some (b ∷ [])) (and_also b (shortest_front x (added n b.grant) s rest)))
  front_at n cs b rest t e = ap (λ v. in_front cs (cond v (Some (b ∷ [])) (and_also b (shortest_front x (added n b.grant) s rest)))) e

  -- a candidate that does not give room yet is added
  pub front_more : (n : ℕ → Bool) (cs : List Bearer) (b : Bearer) (rest : List Bearer) → m.admits x.pool (added n b.grant) s ≡ false →
      in_front cs (shortest_front x n s (b ∷ rest)) ≡ in_front (cs ++ b ∷ []) (shortest_front x (added n b.grant) s rest)
  front_more n cs b rest e = front_at n cs b rest false e ∙ also_front cs b (shortest_front x (added n b.grant) s rest)

  -- the first that does is the last of the front
  pub front_here : (n : ℕ → Bool) (cs : List Bearer) (b : Bearer) (rest : List Bearer) → m.admits x.pool (added n b.grant) s ≡ true →
      in_front cs (shortest_front x n s (b ∷ rest)) ≡ Some (cs ++ b ∷ [])
  front_here n cs b rest e = front_at n cs b rest true e

module _ {m : Radio} (q : Request) (x : State m) (l : ℕ) where
  -- the candidates of a level that are left, and those of the levels below
  abbrev pub left : List Bearer → List Bearer
  left bs = filter (candidate q x l) bs ++ candidates_from (l - 1) q x

  pub level_left : {bs : List Bearer} → 0 < l → x.bearers ≡ bs → candidates_from l q x ≡ left bs
  level_left h it = let e : l ≡ suc (l - 1) = omega (arith, h) in
      ap (λ k. candidates_from k q x) e ∙ ap (λ k. filter (candidate q x k) x.bearers ++ candidates_from (l - 1) q x) (sym e) ∙ ap left it

  left_at : (bs : List Bearer) (i : ℕ) (d : Bearer) (t : Bool) → i < length bs → candidate q x l (get_or bs i d) ≡ t →
      left (drop i bs) ≡ cond t (get_or bs i d ∷ filter (candidate q x l) (drop (i + 1) bs)) (filter (candidate q x l) (drop (i + 1) bs)) ++ candidates_from (l - 1) q x
  left_at bs i d t h e =
      at_drop_more left bs i d h ∙
      ap (λ v. cond v (get_or bs i d ∷ filter (candidate q x l) (drop (i + 1) bs)) (filter (candidate q x l) (drop (i + 1) bs)) ++ candidates_from (l - 1) q x) e

  -- one that is no candidate is passed
  pub left_pass : (bs : List Bearer) (i : ℕ) (d : Bearer) → i < length bs → candidate q x l (get_or bs i d) ≡ false → left (drop i bs) ≡ left (drop (i + 1) bs)
  left_pass bs i d h e = left_at bs i d false h e

  -- a candidate is the next
  pub left_next : (bs : List Bearer) (i : ℕ) (d : Bearer) → i < length bs → candidate q x l (get_or bs i d) ≡ true → left (drop i bs) ≡ get_or bs i d ∷ left (drop (i + 1) bs)
  left_next bs i d h e = left_at bs i d true h e

  -- after the last of a level come the levels below
  pub left_end : (bs : List Bearer) (i : ℕ) → length bs ≤ i → left (drop i bs) ≡ candidates_from (l - 1) q x
  left_end bs i h = at_drop_all left bs i h

-- all candidates, as one name
unfoldable pub all_of : {m : Radio} → Request → State m → List Bearer
all_of q x = candidates q x

-- there are no more candidates than set-up RABs: each is of one level
module _ {m : Radio} (q : Request) (x : State m) where
  -- how many RABs have a level up to l
  abbrev up_to : ℕ → List Bearer → ℕ
  up_to l [] = 0
  up_to l (b ∷ bs) = cond (leb b.priority.level l) 1 0 + up_to l bs

  level_step : (l : ℕ) (b : Bearer) (bs : List Bearer) (n k : ℕ) (t : Bool) → (t ≡ true → b.priority.level ≡ suc l) → length (filter (candidate q x (suc l)) bs) + n ≤ k →
      length (cond t (b ∷ filter (candidate q x (suc l)) bs) (filter (candidate q x (suc l)) bs)) + (cond {A = ℕ} (leb b.priority.level l) 1 0 + n) ≤ cond {A = ℕ} (leb b.priority.level (suc l)) 1 0 + k
  level_step l b bs n k true h i = let e = h refl in grind (arith, nat_tests)
  level_step l b bs n k false h i = grind (arith, nat_tests)

  of_level : (l : ℕ) (b : Bearer) → candidate q x (suc l) b ≡ true → b.priority.level ≡ suc l
  of_level l b e = grind (arith, nat_tests)

  level_count : (l : ℕ) (bs : List Bearer) → length (filter (candidate q x (suc l)) bs) + up_to l bs ≤ up_to (suc l) bs
  level_count l [] = omega arith
  level_count l (b ∷ bs) = level_step l b bs (up_to l bs) (up_to (suc l) bs) (candidate q x (suc l) b) (of_level l b) (level_count l bs)

  levels_count : (l : ℕ) → length (candidates_from l q x) ≤ up_to l x.bearers
  levels_count zero = omega arith
  levels_count (suc l) =
      let a = level_count l x.bearers in
      let b = levels_count l in
      let e = length-append (filter (candidate q x (suc l)) x.bearers) (candidates_from l q x) in
      omega (arith, a, b, e)

  all_count : (l : ℕ) (bs : List Bearer) → up_to l bs ≤ length bs
  all_count l [] = omega arith
  all_count l (b ∷ bs) = let i = all_count l bs in at_most (leb b.priority.level l) (up_to l bs) (length bs) i
    where
      at_most : (t : Bool) (n k : ℕ) → n ≤ k → cond {A = ℕ} t 1 0 + n ≤ suc k
      at_most true n k i = omega arith
      at_most false n k i = omega arith

  pub few_candidates : length (all_of q x) ≤ length x.bearers
  unfolding all_of
  few_candidates = let a = levels_count 14 in let b = all_count 14 x.bearers in omega (arith, a, b)

-- a search under way: those chosen, the set that counts as given back, and the candidates that are left
pub record Front {m : Radio} (q : Request) (x : State m) (cs : List Bearer) (n : ℕ → Bool) (rest : List Bearer) : Type 0 where
  -- together they are all candidates
  pub split : cs ++ rest ≡ all_of q x
  -- what is left gives what the whole gives
  pub finds : in_front cs (shortest_front x n q.size rest) ≡ front_for q x

module _ {m : Radio} (q : Request) (x : State m) where
  -- the same candidates under another name
  pub front_as : {cs rest rest' : List Bearer} {n : ℕ → Bool} → rest ≡ rest' → Front q x cs n rest → Front q x cs n rest'
  front_as {cs} {rest} {rest'} {n} e f = subst (λ vs. Front q x cs n vs) e f

  -- before the first level: none chosen, all to come
  pub begins : (n : ℕ → Bool) (cs : List Bearer) → cs ≡ [] → n ≡ own_grant (own q x) → Front q x cs n (candidates_from 14 q x)
  unfolding all_of front_for
  begins n cs none own' = record {
    split = ap (λ vs. vs ++ candidates q x) none;
    finds = ap (λ vs. in_front vs (shortest_front x n q.size (candidates q x))) none ∙ front_nothing (shortest_front x n q.size (candidates q x)) ∙ ap (λ k. shortest_front x k q.size (candidates q x)) own';
  }

  -- after the last level: no front gave room
  pub ends : {cs : List Bearer} {n : ℕ → Bool} (l : ℕ) → l ≡ 0 → Front q x cs n (candidates_from l q x) → None ≡ front_for q x
  ends {cs} {n} l e f = ap (λ k. in_front cs (shortest_front x n q.size (candidates_from k q x))) (sym e) ∙ f.finds

-- a good RAB's grant goes into the set
pub grown : (n n' : ℕ → Bool) (b : Bearer) → bearer_good b ≡ true → n' ≡ inserted n b.grant → n' ≡ added n b.grant
grown n n' b good i = i ∙ ap (λ t. cond t (added n b.grant) n) (and_parts (ltb b.grant 64) (level_good b.priority) good).0

-- one RAB of the table looked at
module _ {m : Radio} (q : Request) (x : State m) (l i : ℕ) (bs : List Bearer) (d : Bearer) (h : i < length bs) {cs : List Bearer} {n : ℕ → Bool} (f : Front q x cs n (left q x l (drop i bs))) where
  -- it is no candidate
  pub passed_by : candidate q x l (get_or bs i d) ≡ false → Front q x cs n (left q x l (drop (i + 1) bs))
  passed_by e = front_as q x (left_pass q x l bs i d h e) f

  module _ (on : candidate q x l (get_or bs i d) ≡ true) where
    next : Front q x cs n (get_or bs i d ∷ left q x l (drop (i + 1) bs))
    next = front_as q x (left_next q x l bs i d h on) f

    -- there is a place for it
    pub placed : length x.bearers ≤ 64 → length cs < 64
    placed few =
        let k = few_candidates q x in
        let a = length-append cs (get_or bs i d ∷ left q x l (drop (i + 1) bs)) in
        omega (arith, ap length next.split, k, few, a)

    module _ (cs' : List Bearer) (n' : ℕ → Bool) (more : cs' ≡ cs ++ get_or bs i d ∷ []) (grown' : n' ≡ added n (get_or bs i d).grant) where
      -- it is added, and gives no room yet
      pub added_on : m.admits x.pool n' q.size ≡ false → Front q x cs' n' (left q x l (drop (i + 1) bs))
      added_on none =
          let rest = left q x l (drop (i + 1) bs) in
          let a = front_more x q.size n cs (get_or bs i d) rest (ap (λ k. m.admits x.pool k q.size) (sym grown') ∙ none) in
          record {
            split = ap (λ vs. vs ++ rest) more ∙ append_assoc cs (get_or bs i d ∷ []) rest ∙ next.split;
            finds = ap (λ vs. in_front vs (shortest_front x n' q.size rest)) more ∙ ap (λ k. in_front (cs ++ get_or bs i d ∷ []) (shortest_front x k q.size rest)) grown' ∙ sym a ∙ next.finds;
          }

      -- it is added, and gives room: the search is at its end
      pub room_found : m.admits x.pool n' q.size ≡ true → Some cs' ≡ front_for q x
      room_found some =
          let a = front_here x q.size n cs (get_or bs i d) (left q x l (drop (i + 1) bs)) (ap (λ k. m.admits x.pool k q.size) (sym grown') ∙ some) in
          ap Some more ∙ sym a ∙ next.finds
