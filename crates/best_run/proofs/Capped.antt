-- What is in reach of the tokens, one after another. All that is in reach of a stop that lies in
-- reach, and may be passed, is so already.
use Rattle.std.proofs.Common.{◌≡◌, ℕ, ◌+◌, ◌-◌, ◌*◌, ◌<◌, ◌≤◌, Bool, true, false, inl, inr, Some, List, length, get_or}
use Rattle.std.proofs.Common.{replicate, slice_get, refl, sym, ap, subst, ◌∙◌, arith}
use Rattle.reach.proofs.Collected.{none_marked}
use Rattle.best_run.specs.declared.canonical.InReach.{InReach}
use Rattle.best_run.specs.declared.state.Assigned.{Assigned}
use Rattle.best_run.specs.declared.value_ahead.Worth.{Worth}
use Rattle.search_task.specs.declared.task.Task.{Task}
use Rattle.best_run.specs.Ahead.{IsLeast, IsWorth, LiesAhead, beyond, two_ends}
use Rattle.best_run.specs.Canonical.{AllLead, AreCapped, AreCappedBelow, Holds, IsCappedAt, IsCappedFrom}
use Rattle.best_run.specs.Canonical.{IsInReach, IsNear, ReachesAt, ReachesToken, WidensTo}
use Rattle.search_task.specs.Marks.{AreBoth}
use Rattle.search_task.specs.Spots.{ends_in, node_at, own_in}
use Rattle.search_task.specs.Legs.{AreReady}
use Rattle.best_run.proofs.Likened.{next_listed, none_lead, takes_free}
use Rattle.search_task.proofs.Booleans.{not_both}

-- what is in reach of a stop, if nothing was before
pub near_of : (task : Task) (assigned : Assigned) (stop : ℕ) (middle near : List Bool)
    → Holds stop (replicate 744 false) middle → WidensTo task assigned stop middle near
    → IsNear task assigned.used stop near
near_of task assigned stop middle near holds more =
    record {
      lies = more.widens.kept stop holds.lies;
      here = more.here;
      all = λ spot lies passes index leg is_found free. elim (more.widens.over spot lies) [
        | inl known ↦ elim (holds.over spot known) [
          | inl was ↦ absurd (not_both (get_or (replicate 744 false) spot false) was (none_marked 744 spot))
          | inr same ↦ subst (AllLead task assigned.used near) same more.here index leg is_found free
        ]
        | inr over ↦ over passes index leg is_found (takes_free task assigned.used leg.segment ∙ free)
      ];
    }

-- legs lead to what is in reach, of which there may be more
all_within : (task : Task) (used near reach : List Bool) (spot : ℕ)
    → ((other : ℕ) → LiesAhead near other → LiesAhead reach other) → AllLead task used near spot
    → AllLead task used reach spot
all_within task used near reach spot within all place leg at free =
    within leg.segment.to (all place leg at free)

at_kept : (task : Task) (used : List Bool) (stop : ℕ) (old new : InReach) → ReachesToken task used stop old new
    → (spot : ℕ) → IsCappedAt task used old spot → IsCappedAt task used new spot
at_kept task used stop old new more spot was =
    record {
      near = was.near;
      within = λ other lies. more.kept other (was.within other lies);
      lies = was.lies;
      all = was.all;
      level = was.level;
      low =
          let same : new.left * was.level ≡ old.left * was.level = ap (λ (n : ℕ). n * was.level) more.left in
          omega (arith, same, was.low, more.cap);
    }

from_kept : (task : Task) (used : List Bool) (stop : ℕ) (old new : InReach) → ReachesToken task used stop old new
    → (spot : ℕ) → IsCappedFrom task used old spot → IsCappedFrom task used new spot
unfolding at_kept
from_kept task used stop old new more spot was =
    record { at = at_kept task used stop old new more spot was.at; here = was.here }

-- a token lies in reach already, and may be passed
pub token_known : (task : Task) (used : List Bool) (stop : ℕ) (reach : InReach) → LiesAhead reach.ahead stop
    → ends_in (node_at task stop) ≡ false → ReachesToken task used stop reach reach
token_known task used stop reach lies passes =
    record {
      left = refl;
      cap = omega arith;
      kept = λ spot is. is;
      over = λ spot is. inl is;
      from = λ each.
          let at : IsCappedAt task used reach stop = each stop lies in
          record { at = at; here = at.all stop at.lies passes };
    }

-- what stops are worth is no more than a run earns at most, by the least level
worth_low : (task : Task) (near : List Bool) (worth : Worth) (left cap place : ℕ)
    → IsWorth task.spots.items near worth → place < worth.levels
    → (left * (10 * place) + get_or worth.beyond place 0) + ((worth.first - 10 * place) + (worth.second - 10 * place))
    ≤ cap → (left * (10 * place) + beyond (10 * place) task.spots.items near)
    + two_ends (10 * place) task.spots.items near ≤ cap
worth_low task near worth left cap place known low least =
    omega (arith, known.passed place low, known.two (10 * place), least)

near_capped : (task : Task) (used : List Bool) (stop : ℕ) (near : List Bool) (worth : Worth) (most : ℕ)
    (new : InReach) → IsNear task used stop near → IsWorth task.spots.items near worth
    → IsLeast worth new.left true true most → most ≤ new.cap
    → ((other : ℕ) → LiesAhead near other → LiesAhead new.ahead other)
    → (spot : ℕ) → LiesAhead near spot → IsCappedAt task used new spot
near_capped task used stop near worth most new is known least low within spot lies =
    record {
      near = near;
      within = within;
      lies = lies;
      all = is.all;
      level = 10 * least.0;
      low = worth_low task near worth new.left new.cap least.0 known least.1 (omega (arith, least.2, low));
    }

-- what is in reach of a token is added
pub token_more : (task : Task) (used : List Bool) (stop : ℕ) (near : List Bool) (worth : Worth) (most : ℕ)
    (old new : InReach) → IsNear task used stop near → IsWorth task.spots.items near worth
    → IsLeast worth old.left true true most → AreBoth old.ahead near new.ahead → new.left ≡ old.left → most ≤ new.cap
    → old.cap ≤ new.cap → ReachesToken task used stop old new
unfolding near_capped
token_more task used stop near worth most old new is known least both left low more =
    let within : (other : ℕ) → LiesAhead near other → LiesAhead new.ahead other =
    λ other lies. (both.each other).1 (inr lies) in
    let capped : (spot : ℕ) → LiesAhead near spot → IsCappedAt task used new spot =
    near_capped task used stop near worth most new is known
    (subst (λ (n : ℕ). IsLeast worth n true true most) (sym left) least) low within in
    record {
      left = left;
      cap = more;
      kept = λ spot lies. (both.each spot).1 (inl lies);
      over = λ spot lies. elim ((both.each spot).0 lies) [
        | inl was ↦ inl was
        | inr there ↦ inr (capped spot there)
      ];
      from = λ each. record { at = capped stop is.lies; here = is.here };
    }

pub capped_none : (task : Task) (used : List Bool) (reach : InReach) → reach.ahead ≡ replicate 744 false
    → AreCappedBelow task used 0 reach
capped_none task used reach none =
    record {
      each = λ spot lies. absurd (not_both (get_or (replicate 744 false) spot false)
          (subst (λ (ms : List Bool). LiesAhead ms spot) none lies) (none_marked 744 spot));
      own = λ spot listed. absurd (let low = listed.1 in omega arith);
    }

-- the next listed stop has a token
pub capped_more : (task : Task) (used : List Bool) (place stop : ℕ) (old new : InReach)
    → slice_get task.stops.items place ≡ Some stop → ReachesToken task used stop old new
    → AreCappedBelow task used place old → AreCappedBelow task used (place + 1) new
capped_more task used place stop old new at more before =
    record {
      each = λ spot lies. elim (more.over spot lies) [
        | inl was ↦ at_kept task used stop old new more spot (before.each spot was)
        | inr capped ↦ capped
      ];
      own = λ spot listed own. elim (next_listed task.stops.items place stop spot at listed) [
        | inl less ↦ from_kept task used stop old new more spot (before.own spot less own)
        | inr same ↦ subst (IsCappedFrom task used new) same (more.from before.each)
      ];
    }

-- it has none
pub capped_same : (task : Task) (used : List Bool) (place stop : ℕ) (reach : InReach)
    → slice_get task.stops.items place ≡ Some stop → own_in (node_at task stop) ≡ false
    → AreCappedBelow task used place reach → AreCappedBelow task used (place + 1) reach
capped_same task used place stop reach at other before =
    record {
      each = before.each;
      own = λ spot listed own. elim (next_listed task.stops.items place stop spot at listed) [
        | inl less ↦ before.own spot less own
        | inr same ↦ absurd (not_both (own_in (node_at task spot)) own
            (ap (λ (n : ℕ). own_in (node_at task n)) (sym same) ∙ other))
      ];
    }

pub capped_all : (task : Task) → AreReady task → (used : List Bool) (most : ℕ) (reach : InReach)
    → length task.stops.items ≤ most → AreCappedBelow task used most reach → AreCapped task used reach
capped_all task ready used most reach all below spot is own =
    elim (ready.stops.each spot is.0 is.1) [
      | inl none ↦ inl none
      | inr listed ↦ inr (below.own spot (listed.0, (let low = listed.1 in omega arith), listed.2) own)
    ]

pub reach_all : (task : Task) → AreReady task → (used : List Bool) (most : ℕ) (reach : InReach)
    → length task.stops.items ≤ most → AreCappedBelow task used most reach → IsInReach task used reach.ahead
reach_all task ready used most reach all below spot is out =
    elim out [
      | inl own ↦ elim (capped_all task ready used most reach all below spot is own) [
        | inl none ↦ none_lead task used reach.ahead spot none
        | inr from ↦ all_within task used from.at.near reach.ahead spot from.at.within from.here
      ]
      | inr on ↦
          let at : IsCappedAt task used reach spot = below.each spot on.0 in
          all_within task used at.near reach.ahead spot at.within (at.all spot at.lies on.1)
    ]

-- a stop lies in reach already, and may be passed; or what is in reach of it is added
pub at_known : (task : Task) (used : List Bool) (stop : ℕ) (reach : List Bool) → LiesAhead reach stop
    → ReachesAt task used stop reach reach
at_known task used stop reach lies =
    record { kept = λ spot is. is; lies = lies; reaches = λ reaches. reaches }

pub at_more : (task : Task) (used : List Bool) (stop : ℕ) (old near new : List Bool) → IsNear task used stop near
    → AreBoth old near new → ReachesAt task used stop old new
at_more task used stop old near new is both =
    let kept : (other : ℕ) → LiesAhead old other → LiesAhead new other = λ other lies. (both.each other).1 (inl lies) in
    let within : (other : ℕ) → LiesAhead near other → LiesAhead new other =
    λ other lies. (both.each other).1 (inr lies) in
    record {
      kept = kept;
      lies = within stop is.lies;
      reaches = λ reaches spot stops out. elim out [
        | inl own ↦ all_within task used old new spot kept (reaches spot stops (inl own))
        | inr on ↦ elim ((both.each spot).0 on.0) [
          | inl was ↦ all_within task used old new spot kept (reaches spot stops (inr (was, on.1)))
          | inr there ↦ all_within task used near new spot within (is.all spot there on.1)
        ]
      ];
    }
