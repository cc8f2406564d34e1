-- A modification to the size in use or less.
use Rattle.std.specs.Prelude.{◌≡◌, ℕ, ◌≤◌, true, [], ◌∷◌, ◌++◌, Some, None}
use Rattle.rules.specs.Radio.{Radio}
use Rattle.rules.specs.State.{State}
use Rattle.rules.specs.Tables.{set_up_as}
use Rattle.rules.specs.Actions.{done_report}
use Rattle.rules.specs.Checks.{fault_of}
use Rattle.rules.specs.Request.{request_of, assign_anew, assign}
use Rattle.rules.specs.declared.bearer.Bearer.{Bearer}
use Rattle.rules.specs.declared.item.Assignment.{Assignment}
use Rattle.laws.specs.Done.{DoneAlone}
use Rattle.laws.specs.Items.{superseded, waiting}

module _ {m : Radio} where
  -- a sound modification of a set-up RAB, whose grant the pool holds, to its size or less
  pub record AsksNoMore (p : ℕ) (a : Assignment) (b : Bearer) (x : State m) : Type 0 where
    pub sound : m.sound x.pool
    pub set_up : set_up_as p a.rab x.bearers ≡ Some b
    pub held : m.holds x.pool b.grant ≡ b.size
    pub sized : a.flags.parameters ≡ true
    pub faultless : fault_of a (Some b) x ≡ None
    pub less : a.size ≤ b.size

-- such modifications over a kind of pool, in every state
pub record LessIsAlwaysDone (m : Radio) : Type 0 where
  -- it is done at its turn, with nobody pre-empted: it neither fails nor waits
  pub turn : (p : ℕ) (a : Assignment) (b : Bearer) (x : State m) → AsksNoMore p a b x → DoneAlone (request_of p a (Some b)) x (assign_anew p a x)
  -- the item reports that, behind what it supersedes
  pub item : (p : ℕ) (a : Assignment) (b : Bearer) (x : State m) → AsksNoMore p a b x →
      (assign p a x).reports ≡ superseded (waiting p a.rab x) p a.rab ++ done_report p a.rab a.size ∷ []
