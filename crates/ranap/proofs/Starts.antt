-- Length, kind and count of a frame: the tests against the relations.
use Rattle.std.proofs.Common.{◌≡◌, ℕ, Bool, true, false, cond, ◌&&◌, leb, List, length, Some, None, Decides, Option, sym, refl, ◌∙◌, arith}
use Rattle.ranap.specs.Formed.{Starts, Counts}
use Rattle.rules.specs.Frame.{byte, kind_at, count_good}
use Rattle.rules.specs.Numbers.{frame_kind_number, frame_kind_of}
use Rattle.rules.specs.declared.item.FrameKind.{FrameKind}
use Rattle.rules.specs.declared.item.FrameKind.TheVariants.{RabAssignmentRequest, IuReleaseCommand, RelocationCommand, RelocationPreparationFailure}
use Rattle.std.proofs.lemmas.Bool.Decides.{nat_tests}

number_back : (k : FrameKind) → frame_kind_of (frame_kind_number k) ≡ Some k
number_back RabAssignmentRequest = refl
number_back IuReleaseCommand = refl
number_back RelocationCommand = refl
number_back RelocationPreparationFailure = refl

kind_numbered : (n : ℕ) (k : FrameKind) → frame_kind_of n ≡ Some k → frame_kind_number k ≡ n
kind_numbered n k e = grind (arith, nat_tests)

-- what is chosen by a test
kind_when : (b : Bool) (o : Option FrameKind) (k : FrameKind) → cond b o None ≡ Some k → (b ≡ true) × (o ≡ Some k)
kind_when true o k e = (refl, e)
kind_when false o k e = cc

pub starts_from : (k : FrameKind) (bs : List ℕ) → kind_at bs ≡ Some k → Starts k bs
starts_from k bs e =
    let w = kind_when (leb 4 (length bs) && leb (length bs) 1024) (frame_kind_of (byte bs 0)) k e in
    record { long = grind (arith, nat_tests); short = grind (arith, nat_tests); kind = kind_numbered (byte bs 0) k w.1 }

pub starts_kind : (k : FrameKind) (bs : List ℕ) → Starts k bs → kind_at bs ≡ Some k
starts_kind k bs s =
    let number : frame_kind_of (byte bs 0) ≡ Some k = rw (← s.kind) (number_back k) in
    grind (arith, nat_tests)

-- a frame has one kind
pub one_kind : (k k' : FrameKind) (bs : List ℕ) → Starts k bs → Starts k' bs → k ≡ k'
one_kind k k' bs s s' = let e : Some k ≡ Some k' = sym (starts_kind k bs s) ∙ starts_kind k' bs s' in cc

pub counts_if_good : (k : FrameKind) (bs : List ℕ) → Decides (count_good k bs) (Counts k bs)
counts_if_good k bs = (
  λ e. record { least = grind (arith, nat_tests); most = grind (arith, nat_tests); fits = grind (arith, nat_tests) },
  λ s. grind (arith, nat_tests),
)
