-- Groups that certify a game can be written.
use Rattle.std.proofs.Common.{◌≡◌, ℕ, ◌<◌, ◌≤◌, true, ◌&&◌, nat_le, List, [], ◌∷◌, sym, subst, arith}
use Rattle.std.specs.Prelude.{IsTrue}
use Rattle.std.specs.List.{AllByRecursion}
use Rattle.std.proofs.lemmas.Bool.{and_from, le-leb}
use Rattle.legal_runs.specs.Places.{ClaimsHavePlaces}
use Rattle.certificate.specs.declared.group.Group.{Group}
use Rattle.operating.specs.Calls.{Call}
use Rattle.order_grammar.specs.Spells.{is_round_of_line}
use Rattle.rounds.specs.CallsNamed.{CallsAreNamed}
use Rattle.tables.specs.Round.{IsNamed, number_most, operating_most}
use Rattle.tables.specs.declared.round.Round.{Round}
use Rattle.tables.specs.declared.round.Round.TheVariants.{Opening, Stock, Operating}
use Rattle.umpire.specs.Certified.{AreCertified, Certifies}
use Rattle.umpire.specs.ReadAgain.{CanBeWritten, CertifyingCanBeWritten}

-- a number is within its bounds, by the test of both
both_within : (least number most : ℕ) → least ≤ number → number ≤ most
    → (nat_le least number && nat_le number most) ≡ true
both_within least number most from to =
    and_from (nat_le least number) (nat_le number most) (le-leb least number from) (le-leb number most to)

-- a round that can be named is one of a line
of_line : (round : Round) → IsNamed round → IsTrue (is_round_of_line round)
of_line (Opening number) named = both_within 1 number number_most named.0 named.1
of_line (Stock set) named = both_within 1 set number_most named.0 named.1
of_line (Operating set number) named =
    and_from (nat_le 1 set && nat_le set number_most) (nat_le 1 number && nat_le number operating_most)
    (both_within 1 set number_most named.0.0 named.0.1) (both_within 1 number operating_most named.1.0 named.1.1)

-- a group that certifies a call for such a round can be written
one_can : ClaimsHavePlaces → (call : Call) (group : Group) → IsNamed call.round → Certifies call group
    → CanBeWritten group
one_can places call group named certifies =
    let small : group.claim.revenue < 50000 = certifies.small in
    record {
      cert = (of_line group.round (subst IsNamed (sym certifies.of_round) named), omega (arith, small));
      claims = places call.position call.company call.trains group.claim certifies.accepted.claim_holds;
    }

all_can :
    ClaimsHavePlaces → (calls : List Call) (groups : List Group) → AllByRecursion (λ call. IsNamed call.round) calls →
    AreCertified calls groups → AllByRecursion CanBeWritten groups
all_can places [] [] named certified = tt
all_can places [] (group ∷ groups) named certified = absurd certified
all_can places (call ∷ calls) [] named certified = absurd certified
all_can places (call ∷ calls) (group ∷ groups) named certified =
    (one_can places call group named.0 certified.0, all_can places calls groups named.1 certified.1)

pub certifying_can : CallsAreNamed → ClaimsHavePlaces → CertifyingCanBeWritten
certifying_can named places file groups accepted certify =
    all_can places certify.calls groups (named file certify.played certify.calls accepted certify.made)
    certify.certified
