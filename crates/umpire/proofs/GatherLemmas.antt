-- Text that is gathered before it is written.
use Rattle.std.proofs.Common.{◌≡◌, ℕ, List, [], ◌++◌, ap, refl, sym, ◌∙◌, append_assoc}
use Rattle.std.specs.Prelude.{Option}
use Rattle.std.specs.Io.KnownBytes.{Appends}
use Rattle.std.proofs.KnownBytes.{Appends-nil, Appends-trans}
use Rattle.std.proofs.lemmas.List.{append-nil}
use Rattle.umpire.specs.Failure.{AppendsPrefix}
use Rattle.umpire.specs.Gathered.{Gathers}
use Rattle.umpire.proofs.Parts.{LeavesRest, prefix_of_part, none_of}

-- nothing has come
pub gathers_none : (old : Option (List ℕ)) (before : List ℕ) → Gathers old old before before []
gathers_none old before = record { done = []; whole = sym (append-nil before); appended = Appends-nil old }

-- so is a text after it
pub gathers_all : (old mid new : Option (List ℕ)) (before after text : List ℕ) → Appends old mid before → after ≡ []
    → Appends mid new text → Gathers old new before after text
gathers_all old mid new before after text written none more =
    record {
      done = before ++ text;
      whole = ap (λ l. (before ++ text) ++ l) none ∙ append-nil (before ++ text);
      appended = Appends-trans old mid new before text written more;
    }

-- one text has come after another
pub gathers_both : (old mid new : Option (List ℕ)) (before between after first second : List ℕ)
    → Gathers old mid before between first → Gathers mid new between after second
    → Gathers old new before after (first ++ second)
gathers_both old mid new before between after first second a b =
    record {
      done = a.done ++ b.done;
      whole =
          append_assoc a.done b.done after ∙ ap (λ l. a.done ++ l) b.whole ∙ sym (append_assoc a.done between second)
          ∙ ap (λ l. l ++ second) a.whole ∙ append_assoc before first second;
      appended = Appends-trans old mid new a.done b.done a.appended b.appended;
    }

-- a prefix of what is gathered, with what comes after it, is a prefix of the whole
pub prefix_behind : (old mid new : Option (List ℕ)) (before between first second rest : List ℕ)
    → Gathers old mid before between first → AppendsPrefix mid new (between ++ second)
    → AppendsPrefix old new (before ++ (first ++ (second ++ rest)))
prefix_behind old mid new before between first second rest a prefix =
    let behind : List ℕ = (between ++ second) ++ rest in
    let whole : a.done ++ behind ≡ before ++ (first ++ (second ++ rest)) =
    ap (λ l. a.done ++ l) (append_assoc between second rest) ∙ sym (append_assoc a.done between (second ++ rest))
    ∙ ap (λ l. l ++ (second ++ rest)) a.whole ∙ append_assoc before first (second ++ rest)
    in
    let left : LeavesRest old mid (before ++ (first ++ (second ++ rest))) behind =
    record { done = a.done; whole = whole; appended = a.appended } in
    prefix_of_part old mid new (before ++ (first ++ (second ++ rest))) behind (between ++ second) rest left refl prefix

-- so it is where nothing of it was written
pub prefix_so_far : (old mid : Option (List ℕ)) (before between first rest : List ℕ)
    → Gathers old mid before between first → AppendsPrefix old mid (before ++ (first ++ rest))
prefix_so_far old mid before between first rest a =
    prefix_behind old mid mid before between first [] rest a (none_of mid (between ++ []))

-- what was gathered from nothing on is what is left of a text
pub prefix_at_end : (old mid new : Option (List ℕ)) (before after text : List ℕ) → Gathers old mid before after text
    → before ≡ [] → AppendsPrefix mid new after → AppendsPrefix old new text
prefix_at_end old mid new before after text gathered none prefix =
    let whole : gathered.done ++ after ≡ text = gathered.whole ∙ ap (λ l. l ++ text) none in
    let left : LeavesRest old mid text after = record
    { done = gathered.done; whole = whole; appended = gathered.appended } in
    prefix_of_part old mid new text after after [] left (sym (append-nil after)) prefix
