-- What the lists of parts show, as pages are added to them.
use Rattle.std.proofs.Common.{◌≡◌, ℕ, ◌+◌, ◌<◌, ◌≤◌, Bool, true, false, List, [], ◌∷◌, ◌++◌, length, drop, get_or, refl, ap, ◌∙◌, sym, subst, append_assoc, below_more, arith}
use Rattle.std.specs.Prelude.{◌&&◌, Option, Some, None, option_to_list, if◌then◌else◌, nat_le, slice_range, zero, suc}
use Rattle.std.proofs.lemmas.Bool.Decides.{nat_tests}
use Rattle.std.proofs.lemmas.Grind.{flat_map-append}
use Rattle.std.proofs.lemmas.List.{append-nil, drop_more, drop-map, map-append, length-map}
use Rattle.std.proofs.lemmas.List.Elements.{All-push}
use Rattle.std.proofs.lemmas.List.Folds.{drop_split}
use Rattle.markup.specs.Part.{part_text}
use Rattle.markup.specs.declared.part.Part.{Part}
use Rattle.replay.specs.Shown.{AddsNew, AddsOld, AddsPage, IsBefore, IsPlace, LivesBefore, layer_of, page_at, shown, text_in, texts}
use Rattle.replay.specs.declared.lasting.Lasting.{Lasting}
use Rattle.replay.specs.declared.lasting.Layers.{Layers}

-- what is shown with one more part
shown-push : (page : ℕ) (parts : List Lasting) (one : Lasting) → shown page (parts ++ one ∷ []) ≡ shown page parts ++ text_in page one
shown-push page parts one =
    flat_map-append (text_in page) parts (one ∷ []) ∙ ap (λ (text : List (List ℕ)). shown page parts ++ text) (append-nil (text_in page one))

-- a part lives in the pages from its first up to its last
alive : (page : ℕ) (part : Part) (from to : ℕ) → from ≤ page → page ≤ to
    → text_in page (record { part = part; from = from; to = to }) ≡ part_text part ∷ []
alive page part from to above below =
    let first : nat_le from page ≡ true = grind (arith, nat_tests) in
    let last : nat_le page to ≡ true = grind (arith, nat_tests) in
    rw (first, last) refl

-- a choice by a test that fails
neither : (b c : Bool) (x : List (List ℕ)) → c ≡ false → (if b && c then x else []) ≡ []
neither true c x h = rw h refl
neither false c x h = refl

-- and not behind
no_more : (page : ℕ) (one : Lasting) → one.to < page → text_in page one ≡ []
no_more page one behind =
    let last : nat_le page one.to ≡ false = grind (arith, nat_tests) in
    neither (nat_le one.from page) (nat_le page one.to) (part_text one.part ∷ []) last

-- the pages before are the same where the next has it too
as_before : (page number : ℕ) (one : Lasting) → page < number → one.to + 1 ≡ number
    → text_in page (record { part = one.part; from = one.from; to = number }) ≡ text_in page one
as_before page number one earlier last =
    let now : nat_le page number ≡ true = grind (arith, nat_tests) in
    let was : nat_le page one.to ≡ true = grind (arith, nat_tests) in
    rw (now, was) refl

-- the texts of a range of parts, and those behind it
range_texts : (page : List Part) (taken place : ℕ) → taken ≤ place
    → drop taken (texts page) ≡ texts (slice_range page taken place) ++ drop place (texts page)
range_texts page taken place ordered =
    drop-map part_text taken page ∙ (ap texts (drop_split page taken place ordered)
    ∙ (map-append part_text (slice_range page taken place) (drop place page)
    ∙ ap (λ (text : List (List ℕ)). texts (slice_range page taken place) ++ text) (sym (drop-map part_text place page))))

-- a part of the page before has this place where it has the text of the part there
pub place_found : (old : Lasting) (page : List Part) (taken place number : ℕ) (d : Part) → old.to + 1 ≡ number
    → taken ≤ place → place < length page → part_text (get_or page place d) ≡ part_text old.part
    → IsPlace old (texts page) taken place number
place_found old page taken place number d last from within same =
    let size : length (texts page) ≡ length page = length-map page part_text in
    record {
      last = last;
      from = from;
      within = omega (arith, size);
      is = drop-map part_text place page ∙ (ap texts (drop_more page place d within)
          ∙ (ap (λ (text : List ℕ). text ∷ texts (drop (place + 1) page)) same
          ∙ ap (λ (t : List (List ℕ)). part_text old.part ∷ t) (sym (drop-map part_text (place + 1) page))));
    }

-- a part that the page has too is added behind those of the page before it
pub kept_step : (old mid new : List Lasting) (one : Lasting) (page : List Part) (taken place number : ℕ)
    → LivesBefore number one → IsPlace one (texts page) taken place number
    → AddsNew old mid (texts (slice_range page taken place)) number
    → new ≡ mid ++ (record { part = one.part; from = one.from; to = number }) ∷ []
    → AddsOld old new one (texts page) taken (place + 1) number
kept_step old mid new one page taken place number lives at adds is =
    let last : Lasting = record { part = one.part; from = one.from; to = number } in
    let here : text_in number last ≡ part_text one.part ∷ [] =
    alive number one.part one.from number (omega (arith, lives.ordered, lives.before)) (omega arith) in
    let before : List (List ℕ) = shown number old in
    let range : List (List ℕ) = texts (slice_range page taken place) in
    let behind : List (List ℕ) = drop (place + 1) (texts page) in
    let now : shown number new ≡ (before ++ range) ++ part_text one.part ∷ [] =
    ap (shown number) is ∙ (shown-push number mid last
    ∙ (ap (λ (t : List (List ℕ)). shown number mid ++ t) here
    ∙ ap (λ (t : List (List ℕ)). t ++ part_text one.part ∷ []) adds.now)) in
    record {
      now = ap (λ (text : List (List ℕ)). text ++ behind) now
          ∙ (append_assoc (before ++ range) (part_text one.part ∷ []) behind
          ∙ (ap (λ (text : List (List ℕ)). (before ++ range) ++ text) (sym at.is)
          ∙ (append_assoc before range (drop place (texts page))
          ∙ ap (λ (text : List (List ℕ)). before ++ text) (sym (range_texts page taken place at.from)))));
      earlier = λ n earlier. ap (shown n) is ∙ (shown-push n mid last
          ∙ (ap (λ (t : List (List ℕ)). shown n mid ++ t) (as_before n number one earlier at.last)
          ∙ ap (λ (t : List (List ℕ)). t ++ text_in n one) (adds.earlier n earlier)));
      bound = λ bound. subst (IsBefore (number + 1)) (sym is)
          (All-push (LivesBefore (number + 1)) mid last (adds.bound bound)
          (record { ordered = omega (arith, lives.ordered, lives.before); before = omega arith }));
    }

-- a part that the page has not is added
pub left_step : (old new : List Lasting) (one : Lasting) (page : List (List ℕ)) (taken number : ℕ)
    → LivesBefore number one → new ≡ old ++ one ∷ [] → AddsOld old new one page taken taken number
left_step old new one page taken number lives is =
    record {
      now = ap (λ (text : List (List ℕ)). text ++ drop taken page) (ap (shown number) is ∙ (shown-push number old one
          ∙ (ap (λ (t : List (List ℕ)). shown number old ++ t) (no_more number one lives.before)
          ∙ append-nil (shown number old))));
      earlier = λ n earlier. ap (shown n) is ∙ shown-push n old one;
      bound = λ bound. subst (IsBefore (number + 1)) (sym is)
          (All-push (LivesBefore (number + 1)) old one bound
          (record { ordered = lives.ordered; before = omega (arith, lives.before) }));
    }

-- the parts so far and those to come make up the page, and the pages before
pub record Merging (start rest parts : List Lasting) (page : List (List ℕ)) (taken number : ℕ) : Type 0 where
  pub now : shown number parts ++ drop taken page ≡ page
  pub earlier : (n : ℕ) → n < number → shown n parts ++ shown n rest ≡ shown n start
  pub to_come : IsBefore number rest
  pub bound : IsBefore (number + 1) parts

-- nothing is merged at first
pub begin_merging : (start : List Lasting) (page : List (List ℕ)) (number : ℕ) → IsBefore number start
    → Merging start start [] page 0 number
begin_merging start page number before =
    record { now = refl; earlier = λ n earlier. refl; to_come = before; bound = λ k d below. absurd (omega arith) }

-- the first of the parts to come lives before
pub first_before : (start rest more parts : List Lasting) (one : Lasting) (page : List (List ℕ)) (taken number : ℕ)
    → rest ≡ one ∷ more → Merging start rest parts page taken number → LivesBefore number one
first_before start rest more parts one page taken number is merging =
    let come : IsBefore number (one ∷ more) = subst (IsBefore number) is merging.to_come in
    come 0 one (omega arith)

-- one more part is merged
pub merge_step : (start rest more parts new : List Lasting) (one : Lasting) (page : List (List ℕ)) (taken next number : ℕ)
    → rest ≡ one ∷ more → Merging start rest parts page taken number → AddsOld parts new one page taken next number
    → Merging start more new page next number
merge_step start rest more parts new one page taken next number is merging adds =
    let come : IsBefore number (one ∷ more) = subst (IsBefore number) is merging.to_come in
    let later : IsBefore number more = λ k d below. come (suc k) d (omega arith) in
    record {
      now = adds.now ∙ merging.now;
      earlier = λ n earlier. ap (λ (text : List (List ℕ)). text ++ shown n more) (adds.earlier n earlier)
          ∙ (append_assoc (shown n parts) (text_in n one) (shown n more)
          ∙ (ap (λ (all : List Lasting). shown n parts ++ shown n all) (sym is) ∙ merging.earlier n earlier));
      to_come = later;
      bound = adds.bound merging.bound;
    }

-- none is left where none was first
pub none_left : (first : Option Lasting) (rest more : List Lasting) → ((one : Lasting) → first ≡ Some one → ⊥)
    → rest ≡ option_to_list first ++ more → more ≡ drop 1 rest → rest ≡ []
none_left (Some one) rest more none is later = absurd (none one refl)
none_left None [] more none is later = refl
none_left None (one ∷ rest) more none is later =
    let same : one ∷ rest ≡ rest = is ∙ later in
    absurd (omega (arith, ap length same))

-- the rest of the page is added last
pub end_merging : (start rest parts new : List Lasting) (page last : List Part) (taken number : ℕ) → rest ≡ []
    → last ≡ drop taken page → Merging start rest parts (texts page) taken number
    → AddsNew parts new (texts last) number → AddsPage start new (texts page) number
end_merging start rest parts new page last taken number is all merging adds =
    record {
      now = adds.now ∙ (ap (λ (text : List Part). shown number parts ++ texts text) all
          ∙ (ap (λ (text : List (List ℕ)). shown number parts ++ text) (sym (drop-map part_text taken page))
          ∙ merging.now));
      earlier = λ n earlier. adds.earlier n earlier ∙ (sym (append-nil (shown n parts))
          ∙ (ap (λ (all : List Lasting). shown n parts ++ shown n all) (sym is) ∙ merging.earlier n earlier));
      bound = adds.bound merging.bound;
    }

-- the layer of a page of a list, by its number
pub page_here : (layer : ℕ) (pages : List Layers) (number : ℕ) (page : Layers) → number < length pages
    → page ≡ get_or pages number page → page_at layer pages number ≡ texts (layer_of page.layers.items layer)
page_here layer [] number page within is = absurd (omega arith)
page_here layer (first ∷ pages) zero page within is =
    ap (λ (one : Layers). texts (layer_of one.layers.items layer)) (sym is)
page_here layer (first ∷ pages) (suc number) page within is = page_here layer pages number page (omega arith) is

-- one more page is shown
pub page_step : (old new : List Lasting) (layer : ℕ) (pages : List Layers) (number : ℕ) (page : Layers)
    → number < length pages → page ≡ get_or pages number page
    → AddsPage old new (texts (layer_of page.layers.items layer)) number
    → ((n : ℕ) → n < number → shown n old ≡ page_at layer pages n)
    → (n : ℕ) → n < number + 1 → shown n new ≡ page_at layer pages n
page_step old new layer pages number page within is adds shows =
    below_more (λ n. shown n new ≡ page_at layer pages n) number (λ n before. adds.earlier n before ∙ shows n before)
    (adds.now ∙ sym (page_here layer pages number page within is))
