-- How far the lines of a file have gone over.
use Rattle.std.proofs.Common.{◌≡◌, ℕ, ◌+◌, ◌-◌, ◌≤◌, false, true, List, [], ◌∷◌, ◌++◌, length, take, drop, ap, refl}
use Rattle.std.proofs.Common.{sym, ◌∙◌, append_assoc, arith}
use Rattle.std.specs.Prelude.{Option}
use Rattle.std.proofs.lemmas.List.{append-nil, length-append}
use Rattle.std.proofs.Math.Seq.{drop-append_seam, take-append_seam}
use Rattle.sheets.specs.Text.{is_blank, lines_of}
use Rattle.umpire.specs.Failure.{AppendsPrefix}
use Rattle.umpire.specs.Gathered.{Gathers, IsFromHeader}
use Rattle.umpire.specs.Migrated.{body_in_two, file_in_two, header_of_two, is_if_line}
use Rattle.umpire.proofs.EndedLines.{FirstEnded, body_by_line, file_by_blank, file_by_header, line_goes, line_stays}
use Rattle.umpire.proofs.EndedLines.{no_body_in_two, nothing_in_two}
use Rattle.umpire.proofs.GatherLemmas.{gathers_both, gathers_none, prefix_behind}

-- the prefix of a text, by what is left of it
prefix_taken : (prefix rest : List ℕ) → take (length (prefix ++ rest) - length rest) (prefix ++ rest) ≡ prefix
prefix_taken prefix rest =
    rw (length-append prefix rest)
    (let n : (length prefix + length rest) - length rest ≡ length prefix =
    omega arith in rw (n, take-append_seam prefix rest) refl)

pub prefix_by_rest : (text prefix rest : List ℕ) → text ≡ prefix ++ rest → take (length text - length rest) text
    ≡ prefix
prefix_by_rest text prefix rest is = rw is (prefix_taken prefix rest)

-- blank lines came first
pub record AreBlank (file rest : List ℕ) : Type 0 where
  pub prefix : List ℕ
  pub whole : file ≡ prefix ++ rest
  pub stays : file_in_two file ≡ prefix ++ file_in_two rest

pub one_more_blank : (file text line rest : List ℕ) → AreBlank file text → FirstEnded text line rest
    → is_blank line ≡ true → AreBlank file rest
one_more_blank file text line rest so_far first blank =
    let more : List ℕ = line ++ first.end in
    let whole : text ≡ more ++ rest = first.whole ∙ sym (append_assoc line first.end rest) in
    let stays : file_in_two text ≡ more ++ file_in_two rest =
    file_by_blank text line rest first blank ∙ sym (append_assoc line first.end (file_in_two rest)) in
    record {
      prefix = so_far.prefix ++ more;
      whole = so_far.whole ∙ ap (λ l. so_far.prefix ++ l) whole ∙ sym (append_assoc so_far.prefix more rest);
      stays = so_far.stays ∙ ap (λ l. so_far.prefix ++ l) stays
          ∙ sym (append_assoc so_far.prefix more (file_in_two rest));
    }

-- a file without a header line stays
pub blank_file_stays : (file text : List ℕ) (found : IsFromHeader file text) → text ≡ []
    → file_in_two file ≡ found.prefix
blank_file_stays file text found none = found.stays ∙ ap (λ l. found.prefix ++ file_in_two l) none
    ∙ rw nothing_in_two (append-nil found.prefix)

-- another is what is before that, the header and the body
pub file_by_parts : (file text line rest : List ℕ) (lines : List (List ℕ)) (found : IsFromHeader file text)
    → lines_of text ≡ line ∷ lines → FirstEnded text line rest →
    file_in_two file ≡ found.prefix ++ (header_of_two ++ body_in_two (drop (length line) text))
file_by_parts file text line rest lines found are first =
    let behind : drop (length line) text ≡ first.end ++ rest =
    ap (λ l. drop (length line) l) first.whole ∙ drop-append_seam line (first.end ++ rest) in
    rw behind (found.stays ∙ ap (λ l. found.prefix ++ l)
    (file_by_header text line rest first (found.counts line lines are)))

-- some lines have come after what was gathered; of the text from `kept` on those from `rest` on are
-- ahead
pub record Putting (old new : Option (List ℕ)) (before after text kept rest : List ℕ) : Type 0 where
  pub out : List ℕ
  pub stretch : List ℕ
  pub gathers : Gathers old new before after out
  pub is_kept : kept ≡ stretch ++ rest
  pub whole : body_in_two text ≡ out ++ (stretch ++ body_in_two rest)

pub putting_none : (old : Option (List ℕ)) (before text : List ℕ) → Putting old old before before text text text
putting_none old before text =
    record { out = []; stretch = []; gathers = gathers_none old before; is_kept = refl; whole = refl }

-- the next line stays
pub putting_line : (old new : Option (List ℕ)) (before after text kept rest line next : List ℕ)
    → Putting old new before after text kept rest → FirstEnded rest line next → is_if_line line ≡ false
    → Putting old new before after text kept next
putting_line old new before after text kept rest line next so_far first stays =
    let more : List ℕ = line ++ first.end in
    let whole : rest ≡ more ++ next = first.whole ∙ sym (append_assoc line first.end next) in
    let body : body_in_two rest ≡ more ++ body_in_two next =
    body_by_line rest line next first ∙ ap (λ l. l ++ (first.end ++ body_in_two next)) (line_stays line stays)
    ∙ sym (append_assoc line first.end (body_in_two next))
    in
    record {
      out = so_far.out;
      stretch = so_far.stretch ++ more;
      gathers = so_far.gathers;
      is_kept = so_far.is_kept ∙ ap (λ l. so_far.stretch ++ l) whole ∙ sym (append_assoc so_far.stretch more next);
      whole = so_far.whole ∙ ap (λ l. so_far.out ++ l)
          (ap (λ l. so_far.stretch ++ l) body ∙ sym (append_assoc so_far.stretch more (body_in_two next)));
    }

-- the next line becomes X
pub putting_x : (old mid there new : Option (List ℕ))
    (before after between behind text kept rest line next stretch left : List ℕ)
    (so_far : Putting old mid before after text kept rest) →
    FirstEnded rest line next → is_if_line line ≡ true → stretch ≡ so_far.stretch
    → Gathers mid there after between stretch → Gathers there new between behind (88 ∷ [])
    → left ≡ drop (length line) rest →
    Putting old new before behind text left next
putting_x old mid there new before after between behind text kept rest line next stretch left so_far first goes is one
    two behind_it =
    let body : body_in_two rest ≡ 88 ∷ (first.end ++ body_in_two next) =
    body_by_line rest line next first ∙ ap (λ l. l ++ (first.end ++ body_in_two next)) (line_goes line goes) in
    let out : List ℕ = (so_far.out ++ stretch) ++ 88 ∷ [] in
    let whole : body_in_two text ≡ out ++ (first.end ++ body_in_two next) =
    so_far.whole ∙ rw (← is) (ap (λ l. so_far.out ++ (stretch ++ l)) body)
    ∙ sym (append_assoc so_far.out stretch (88 ∷ (first.end ++ body_in_two next)))
    ∙ sym (append_assoc (so_far.out ++ stretch) (88 ∷ []) (first.end ++ body_in_two next))
    in
    record {
      out = out;
      stretch = first.end;
      gathers = gathers_both _ _ _ _ _ _ _ _ (gathers_both _ _ _ _ _ _ _ _ so_far.gathers one) two;
      is_kept = behind_it ∙ ap (λ l. drop (length line) l) first.whole ∙ drop-append_seam line (first.end ++ next);
      whole = whole;
    }

-- no line is left
pub putting_all : (old mid new : Option (List ℕ)) (before after behind text kept rest : List ℕ)
    → Putting old mid before after text kept rest → rest ≡ [] → Gathers mid new after behind kept
    → Gathers old new before behind (body_in_two text)
putting_all old mid new before after behind text kept rest so_far none last =
    let tail : kept ≡ so_far.stretch = so_far.is_kept ∙ ap (λ l. so_far.stretch ++ l) none
    ∙ append-nil so_far.stretch in
    let body : so_far.stretch ++ body_in_two rest ≡ kept =
    rw (none, no_body_in_two) (append-nil so_far.stretch ∙ sym tail) in
    rw (so_far.whole, body) (gathers_both _ _ _ _ _ _ _ _ so_far.gathers last)

-- a prefix of the stretch that is put is a prefix of all
pub prefix_of_stretch : (old mid new : Option (List ℕ)) (before after text kept rest stretch : List ℕ)
    (so_far : Putting old mid before after text kept rest) → stretch ≡ so_far.stretch
    → AppendsPrefix mid new (after ++ stretch) → AppendsPrefix old new (before ++ body_in_two text)
prefix_of_stretch old mid new before after text kept rest stretch so_far is prefix =
    rw (so_far.whole, ← is) (prefix_behind old mid new before after so_far.out stretch (body_in_two rest)
    so_far.gathers prefix)

-- so is a prefix of the X after it
pub prefix_of_x : (old mid there new : Option (List ℕ))
    (before after between text kept rest line next stretch : List ℕ)
    (so_far : Putting old mid before after text kept rest) →
    FirstEnded rest line next → is_if_line line ≡ true → stretch ≡ so_far.stretch
    → Gathers mid there after between stretch → AppendsPrefix there new (between ++ 88 ∷ []) →
    AppendsPrefix old new (before ++ body_in_two text)
prefix_of_x old mid there new before after between text kept rest line next stretch so_far first goes is one prefix =
    let body : body_in_two rest ≡ 88 ∷ (first.end ++ body_in_two next) =
    body_by_line rest line next first ∙ ap (λ l. l ++ (first.end ++ body_in_two next)) (line_goes line goes) in
    let whole : body_in_two text ≡ (so_far.out ++ stretch) ++ (88 ∷ (first.end ++ body_in_two next)) =
    so_far.whole ∙ rw (← is) (ap (λ l. so_far.out ++ (stretch ++ l)) body)
    ∙ sym (append_assoc so_far.out stretch (88 ∷ (first.end ++ body_in_two next)))
    in
    rw whole
    (prefix_behind old there new before between (so_far.out ++ stretch) (88 ∷ []) (first.end ++ body_in_two next)
    (gathers_both _ _ _ _ _ _ _ _ so_far.gathers one) prefix)

-- and a prefix of what is left
pub prefix_of_rest : (old mid new : Option (List ℕ)) (before after text kept rest : List ℕ)
    → Putting old mid before after text kept rest → rest ≡ [] → AppendsPrefix mid new (after ++ kept)
    → AppendsPrefix old new (before ++ body_in_two text)
prefix_of_rest old mid new before after text kept rest so_far none prefix =
    let tail : kept ≡ so_far.stretch = so_far.is_kept ∙ ap (λ l. so_far.stretch ++ l) none
    ∙ append-nil so_far.stretch in
    prefix_of_stretch old mid new before after text kept rest kept so_far tail prefix

-- a line is no longer than its text
pub line_within : (text line rest : List ℕ) → FirstEnded text line rest → length line ≤ length text
line_within text line rest first = rw (first.whole, length-append line (first.end ++ rest)) (omega arith)

-- a prefix of what is written of a file is a prefix of all
pub prefix_of_file : (old mid new : Option (List ℕ)) (before after file text line rest first : List ℕ)
    (lines : List (List ℕ)) (found : IsFromHeader file text) → lines_of text ≡ line ∷ lines
    → FirstEnded text line rest →
    first ≡ found.prefix → Gathers old mid before after first → AppendsPrefix mid new (after ++ header_of_two)
    → AppendsPrefix old new (before ++ file_in_two file)
prefix_of_file old mid new before after file text line rest first lines found are ended is gathers prefix =
    rw (file_by_parts file text line rest lines found are ended, ← is)
    (prefix_behind old mid new before after first header_of_two (body_in_two (drop (length line) text)) gathers prefix)

pub prefix_of_body : (old mid there new : Option (List ℕ))
    (before after between file text line rest first left : List ℕ) (lines : List (List ℕ))
    (found : IsFromHeader file text) → lines_of text ≡ line ∷ lines → FirstEnded text line rest →
    first ≡ found.prefix → Gathers old mid before after first → Gathers mid there after between header_of_two
    → left ≡ drop (length line) text → AppendsPrefix there new (between ++ body_in_two left)
    → AppendsPrefix old new (before ++ file_in_two file)
prefix_of_body old mid there new before after between file text line rest first left lines found are ended is gathers
    one behind_it prefix =
    let body : List ℕ = body_in_two left in
    let parts : file_in_two file ≡ (first ++ header_of_two) ++ body =
    file_by_parts file text line rest lines found are ended
    ∙ rw (← is, ← behind_it) (sym (append_assoc first header_of_two body)) in
    rw (parts, ← append-nil body)
    (prefix_behind old there new before between (first ++ header_of_two) body []
    (gathers_both _ _ _ _ _ _ _ _ gathers one) prefix)

pub all_of_file : (old mid there new : Option (List ℕ))
    (before after between behind file text line rest first left : List ℕ) (lines : List (List ℕ))
    (found : IsFromHeader file text) → lines_of text ≡ line ∷ lines → FirstEnded text line rest →
    first ≡ found.prefix → Gathers old mid before after first → Gathers mid there after between header_of_two
    → left ≡ drop (length line) text → Gathers there new between behind (body_in_two left)
    → Gathers old new before behind (file_in_two file)
all_of_file old mid there new before after between behind file text line rest first left lines found are ended is
    gathers one behind_it two =
    let body : List ℕ = body_in_two left in
    let parts : file_in_two file ≡ (first ++ header_of_two) ++ body =
    file_by_parts file text line rest lines found are ended
    ∙ rw (← is, ← behind_it) (sym (append_assoc first header_of_two body)) in
    rw parts (gathers_both _ _ _ _ _ _ _ _ (gathers_both _ _ _ _ _ _ _ _ gathers one) two)
