-- The lines of texts that end with a line feed, and where a text is cut before its first line that begins with `%`;
-- no line of a script does.
use Rattle.std.proofs.Common.{length-append, ◌≡◌, ℕ, ◌≤◌, ◌==◌, Bool, true, false, ◌&&◌, List, [], ◌∷◌, ◌++◌, length, All, if◌then◌else◌, refl, sym, ◌∙◌, ap, arith, eqb-true, append_assoc, append-nil, ◌+◌, fold, position, Option, Some, None, Result, Ok, Err, subst, get_or}
use Rattle.std.specs.List.{onto_first, join_with_byte, enumerate_from, list_all, slice_split}
use Rattle.std.proofs.lemmas.Bool.{and_parts, false≢true}
use Rattle.std.proofs.lemmas.List.Splits.{length-slice_split, slice_split_at, join_with_byte-slice_split}
use Rattle.std.proofs.lemmas.List.Quantifiers.{position-Some}
use Rattle.std.proofs.lemmas.List.Sums.{fold-append}
use Rattle.std.proofs.lemmas.Slice.Eq.{bytes_eq-Decides}
use Rattle.geo_base.proofs.PlaceLists.{numbered_both}
use Rattle.geo_base.specs.Name.{is_short_name, is_word_byte}
use Rattle.geo_model.specs.declared.command.Cause.{Cause}
use Rattle.geo_model.specs.declared.command.Cause.TheVariants as causes
use Rattle.geo_model.specs.Script.{lines_of, drop_empty_end, ◌>>=◌, Words, Fault, actor_line, line_tests, words_line, words_of, empty_plan, next_line, at_line, script, IsScript}
use Rattle.geo_model.specs.Plans.{MayBegin}
use Rattle.geo_model.specs.Words.{same_name, unless, first_error}
use Rattle.geo_model.specs.World.{Plan}
use Rattle.geo_script.proofs.PlanLaw.{scripts-are-plans}
use Rattle.geo_headline.specs.Traces.{ended_script, front_from, back_from, parts_of, joined_parts}

-- Parts

-- there is a first part
pub some_part : (text : List ℕ) → 1 ≤ length (parts_of text)
some_part text = let more = length-slice_split (λ b. b == 10) text in omega (arith, more)

-- a line that ends with a line feed is a part
pub first_part : (line rest : List ℕ) → All (λ b. (b == 10) ≡ false) line
    → parts_of (line ++ 10 ∷ rest) ≡ line ∷ parts_of rest
first_part line rest clean = slice_split_at (λ b. b == 10) line 10 rest clean refl

-- the first part grows, whatever follows
onto_both : (b : ℕ) (parts more : List (List ℕ)) → 1 ≤ length parts
    → onto_first b (parts ++ more) ≡ onto_first b parts ++ more
onto_both b [] more some = absurd (omega arith)
onto_both b (part ∷ parts) more some = refl

-- parts on both sides of a line feed
parts_both : (text rest : List ℕ) → parts_of (text ++ 10 ∷ rest) ≡ parts_of text ++ parts_of rest
parts_both [] rest = refl
parts_both (b ∷ bs) rest =
    grind (arith, parts_both bs rest, onto_both b (parts_of bs) (parts_of rest) (some_part bs))

-- parts are joined as texts are
pub joined : (parts : List (List ℕ)) → joined_parts parts ≡ join_with_byte 10 parts
joined [] = refl
joined (part ∷ []) = refl
joined (part ∷ next ∷ parts) = ap (λ rest. part ++ 10 ∷ rest) (joined (next ∷ parts))

-- the parts of a text are joined to it
pub joined_back : (text : List ℕ) → joined_parts (parts_of text) ≡ text
joined_back text = joined (parts_of text) ∙ join_with_byte-slice_split 10 text

-- Lines

-- a line before others stays, however empty
end_kept : (line : List ℕ) (parts : List (List ℕ)) → 1 ≤ length parts
    → drop_empty_end (line ∷ parts) ≡ line ∷ drop_empty_end parts
end_kept line [] some = absurd (omega arith)
end_kept [] (part ∷ parts) some = refl
end_kept (b ∷ bs) (part ∷ parts) some = refl

-- so do some before others
ends_kept : (lines parts : List (List ℕ)) → 1 ≤ length parts
    → drop_empty_end (lines ++ parts) ≡ lines ++ drop_empty_end parts
ends_kept [] parts some = refl
ends_kept (line ∷ lines) parts some =
    let more = length-append lines parts in
    end_kept line (lines ++ parts) (omega (arith, more, some)) ∙ ap (λ ps. line ∷ ps) (ends_kept lines parts some)

-- a text is empty, or ends with a line feed
pub data IsEnded (text : List ℕ) : Type 0 where
  empty : text ≡ [] → IsEnded text
  ended : (front : List ℕ) → text ≡ front ++ 10 ∷ [] → IsEnded text

-- the lines of a text that ends with a line feed are parts of it
ended_lines : (front : List ℕ) → lines_of (front ++ 10 ∷ []) ≡ parts_of front
ended_lines front =
    ap drop_empty_end (parts_both front []) ∙ ends_kept (parts_of front) ([] ∷ []) (omega arith)
    ∙ append-nil (parts_of front)

-- the lines of a text, and of what stands behind it
pub lines_both : (text rest : List ℕ) → IsEnded text → lines_of (text ++ rest) ≡ lines_of text ++ lines_of rest
lines_both text rest (empty is) = rw is refl
lines_both text rest (ended front is) =
    ap (λ xs. lines_of (xs ++ rest)) is
    ∙ ap lines_of (append_assoc front (10 ∷ []) rest)
    ∙ ap drop_empty_end (parts_both front rest)
    ∙ ends_kept (parts_of front) (parts_of rest) (some_part rest)
    ∙ ap (λ ls. ls ++ lines_of rest) (sym (ap lines_of is ∙ ended_lines front))

-- Where lines begin

-- whether a line begins behind a text, by whether one begins before it
abbrev pub begins_behind : Bool → List ℕ → Bool
begins_behind start [] = start
begins_behind start (b ∷ bs) = begins_behind (b == 10) bs

-- a text behind which a line begins ends with a line feed
pub is_ended : (b : ℕ) (bs : List ℕ) → begins_behind (b == 10) bs ≡ true
    → (front : List ℕ) × (b ∷ bs ≡ front ++ 10 ∷ [])
is_ended b [] e = ([], ap (λ x. x ∷ []) (eqb-true b 10 e))
is_ended b (c ∷ cs) e = let more = is_ended c cs e in (b ∷ more.0, ap (λ xs. b ∷ xs) more.1)

-- the same of any text
pub as_ended : (text : List ℕ) → begins_behind true text ≡ true → IsEnded text
as_ended [] e = empty refl
as_ended (b ∷ bs) e = let more = is_ended b bs e in ended more.0 more.1

-- a script whose last line is ended stays so
pub ended_same : (start : Bool) (text : List ℕ) → begins_behind start text ≡ true → ended_script text ≡ text
ended_same start [] e = refl
ended_same start (b ∷ []) e = rw e refl
ended_same start (b ∷ c ∷ cs) e = ap (λ xs. b ∷ xs) (ended_same (b == 10) (c ∷ cs) e)

-- to one whose last line isn't ended a line feed comes
ended_more : (b : ℕ) (bs : List ℕ) → begins_behind (b == 10) bs ≡ false
    → ended_script (b ∷ bs) ≡ b ∷ bs ++ 10 ∷ []
ended_more b [] e = rw e refl
ended_more b (c ∷ cs) e = ap (λ xs. b ∷ xs) (ended_more c cs e)

-- the last part of a text that isn't ended isn't empty
last_kept : (b : ℕ) (bs : List ℕ) → begins_behind (b == 10) bs ≡ false
    → drop_empty_end (parts_of (b ∷ bs)) ≡ parts_of (b ∷ bs)
last_kept b [] e = rw e refl
last_kept b (c ∷ cs) e = by (b == 10) (parts_of (c ∷ cs)) (some_part (c ∷ cs)) (last_kept c cs e)
  where
    by : (t : Bool) (parts : List (List ℕ)) → 1 ≤ length parts → drop_empty_end parts ≡ parts
        → drop_empty_end (if t then [] ∷ parts else onto_first b parts)
        ≡ (if t then [] ∷ parts else onto_first b parts)
    by true parts some kept = end_kept [] parts some ∙ ap (λ (ps : List (List ℕ)). [] ∷ ps) kept
    by false [] some kept = absurd (omega arith)
    by false ([] ∷ []) some kept = absurd (let bad : ⊥ = cc in bad)
    by false ([] ∷ part ∷ parts) some kept = cc
    by false ((x ∷ xs) ∷ parts) some kept = cc

-- a script with its last line ended has the same lines
pub ended_script_lines : (text : List ℕ) → lines_of (ended_script text) ≡ lines_of text
ended_script_lines [] = refl
ended_script_lines (b ∷ bs) = by (begins_behind (b == 10) bs) refl
  where
    by : (t : Bool) → begins_behind (b == 10) bs ≡ t → lines_of (ended_script (b ∷ bs)) ≡ lines_of (b ∷ bs)
    by true e = ap lines_of (ended_same true (b ∷ bs) e)
    by false e = ap lines_of (ended_more b bs e) ∙ ended_lines (b ∷ bs) ∙ sym (last_kept b bs e)

-- and a line begins behind it
pub ended_script_ends : (start : Bool) (b : ℕ) (bs : List ℕ) → begins_behind start (ended_script (b ∷ bs)) ≡ true
ended_script_ends start b [] = grind arith
ended_script_ends start b (c ∷ cs) = ended_script_ends (b == 10) c cs

-- the same of any script
pub script_ends : (text : List ℕ) → begins_behind true (ended_script text) ≡ true
script_ends [] = refl
script_ends (b ∷ bs) = ended_script_ends true b bs

-- The mark

-- a text is what stands before its first line that begins with `%`, and what stands from there on
pub cut : (start : Bool) (text : List ℕ) → text ≡ front_from start text ++ back_from start text
cut start [] = refl
cut start (b ∷ bs) = grind (arith, cut (b == 10) bs)

-- a text from a mark on begins with it, and the line begins behind what stands before
pub record IsMarkedBehind (start : Bool) (front : List ℕ) (first : ℕ) : Type 0 where
  pub mark : first ≡ 37
  pub begins : begins_behind start front ≡ true

pub marked_behind : (start : Bool) (text : List ℕ) (first : ℕ) (rest : List ℕ) → back_from start text ≡ first ∷ rest
    → IsMarkedBehind start (front_from start text) first
marked_behind start [] first rest e = absurd (let bad : ⊥ = cc in bad)
marked_behind start (b ∷ bs) first rest e =
    by (start && (b == 37)) refl e (λ inner. marked_behind (b == 10) bs first rest inner)
  where
    by : (t : Bool) → (start && (b == 37)) ≡ t
        → (if t then b ∷ bs else back_from (b == 10) bs) ≡ first ∷ rest
        → (back_from (b == 10) bs ≡ first ∷ rest → IsMarkedBehind (b == 10) (front_from (b == 10) bs) first)
        → IsMarkedBehind start (if t then [] else b ∷ front_from (b == 10) bs) first
    by true t e more =
        let same : b ≡ first = cc in
        let both = and_parts start (b == 37) t in
        record { mark = sym same ∙ eqb-true b 37 both.1; begins = both.0 }
    by false t e more = let is = more e in record { mark = is.mark; begins = is.begins }

-- a text without a mark stands before one, and the mark with what follows behind it
pub mark_kept : (start : Bool) (text rest : List ℕ) → back_from start text ≡ [] → begins_behind start text ≡ true
    → (front_from start (text ++ 37 ∷ rest) ≡ text) × (back_from start (text ++ 37 ∷ rest) ≡ 37 ∷ rest)
mark_kept start [] rest none begins = rw begins (refl, refl)
mark_kept start (b ∷ bs) rest none begins =
    let both = mark_kept (b == 10) bs rest (grind (arith, none)) begins in
    (grind (arith, none, both.0), grind (arith, none, both.1))

-- An actor

-- no short name begins with the mark
no_short_name : (word : List ℕ) → is_short_name (37 ∷ word) ≡ true → ⊥
no_short_name word e =
    false≢true ((and_parts _ (list_all is_word_byte (37 ∷ word)) e).1)

-- so no actor has such a name
no_actor : (plan : Plan) (word : List ℕ) → MayBegin plan → position (same_name (37 ∷ word)) plan.actors ≡ None
no_actor plan word is = by (position (same_name (37 ∷ word)) plan.actors) refl
  where
    by : (o : Option ℕ) → position (same_name (37 ∷ word)) plan.actors ≡ o → o ≡ None
    by None e = refl
    by (Some actor) e =
        let found = position-Some (same_name (37 ∷ word)) plan.actors actor [] e in
        let named : 37 ∷ word ≡ get_or plan.actors actor [] =
        (bytes_eq-Decides (37 ∷ word) (get_or plan.actors actor [])).0 found.1 in
        let short : is_short_name (get_or plan.actors actor []) ≡ true = (is.actors actor [] found.0).short in
        absurd (no_short_name word (ap is_short_name named ∙ short))

-- A line

-- a first word that begins with the mark is read by nothing
first_refused : (plan : Plan) (n : ℕ) (parts : Words) → MayBegin plan
    → words_line plan n (onto_first 37 parts) ≡ Err causes.Actor
first_refused plan n [] is = ap (λ o. actor_line plan n o []) (no_actor plan [] is)
first_refused plan n (word ∷ words) is = ap (λ o. actor_line plan n o words) (no_actor plan word is)

-- so the line has a fault
record IsRefused (r : Result Plan Fault) : Type 0 where
  fault : Fault
  is : r ≡ Err fault

line_refused : (plan : Plan) (n : ℕ) (line : List ℕ) → MayBegin plan → IsRefused (next_line (Ok plan) (n, 37 ∷ line))
line_refused plan n line is =
    by (first_error (line_tests n (37 ∷ line)))
  where
    by : (o : Option Cause) → IsRefused (at_line n (unless o (words_of (37 ∷ line)) >>= words_line plan n))
    by None = record {
      fault = record { line = n; cause = causes.Actor };
      is = ap (at_line n) (first_refused plan n (words_of line) is);
    }
    by (Some cause) = record { fault = record { line = n; cause = cause }; is = refl }

-- Texts

-- a fault stays
fault_stays : (fault : Fault) (items : List (ℕ × List ℕ)) → fold next_line (Err fault) items ≡ Err fault
fault_stays fault [] = refl
fault_stays fault (item ∷ items) = fault_stays fault items

-- a text that begins with the mark has a line that does
record BeginsMarked (lines : List (List ℕ)) : Type 0 where
  line : List ℕ
  more : List (List ℕ)
  is : lines ≡ (37 ∷ line) ∷ more

begins_marked : (text : List ℕ) → BeginsMarked (lines_of (37 ∷ text))
begins_marked text = by (slice_split (λ b. b == 10) text)
  where
    by : (parts : List (List ℕ)) → BeginsMarked (drop_empty_end (onto_first 37 parts))
    by [] = record { line = []; more = []; is = refl }
    by (part ∷ parts) = record { line = part; more = drop_empty_end parts; is = refl }

-- what was read before the marked line is a plan, so that the line has a fault
lines_refused : (lines : List (List ℕ)) → BeginsMarked lines → (n : ℕ) (r : Result Plan Fault)
    → ((plan : Plan) → r ≡ Ok plan → MayBegin plan) → IsRefused (fold next_line r (enumerate_from n lines))
lines_refused lines begins n r plans =
    subst (λ (ls : List (List ℕ)). IsRefused (fold next_line r (enumerate_from n ls))) (sym begins.is) (by r plans)
  where
    by : (r : Result Plan Fault) → ((plan : Plan) → r ≡ Ok plan → MayBegin plan)
        → IsRefused (fold next_line (next_line r (n, 37 ∷ begins.line)) (enumerate_from (n + 1) begins.more))
    by (Err fault) plans = record { fault = fault; is = fault_stays fault (enumerate_from (n + 1) begins.more) }
    by (Ok plan) plans =
        let refused = line_refused plan n begins.line (plans plan refl) in
        record {
          fault = refused.fault;
          is =
              ap (λ r. fold next_line r (enumerate_from (n + 1) begins.more)) refused.is
              ∙ fault_stays refused.fault (enumerate_from (n + 1) begins.more);
        }

-- a text with a marked line is no script
text_refused : (front rest : List ℕ) → IsEnded front → IsRefused (script (front ++ 37 ∷ rest))
unfolding script
text_refused front rest is_ended =
    let refused = lines_refused (lines_of (37 ∷ rest)) (begins_marked rest) (1 + length (lines_of front)) (script front)
    (λ plan is. (scripts-are-plans front plan is).begins) in
    record {
      fault = refused.fault;
      is =
          ap (λ ls. fold next_line (Ok empty_plan) (enumerate_from 1 ls)) (lines_both front (37 ∷ rest) is_ended)
          ∙ ap (λ xs. fold next_line (Ok empty_plan) xs) (numbered_both 1 (lines_of front) (lines_of (37 ∷ rest)))
          ∙ fold-append next_line (Ok empty_plan) (enumerate_from 1 (lines_of front))
          (enumerate_from (1 + length (lines_of front)) (lines_of (37 ∷ rest)))
          ∙ refused.is;
    }

-- so no line of a script begins with the mark
pub unmarked : (text : List ℕ) (plan : Plan) → IsScript text plan → back_from true text ≡ []
unmarked text plan is = by (back_from true text) refl
  where
    by : (back : List ℕ) → back_from true text ≡ back → back ≡ []
    by [] e = refl
    by (b ∷ rest) e =
        let marked = marked_behind true text b rest e in
        let whole : text ≡ front_from true text ++ 37 ∷ rest =
        cut true text ∙ ap (λ xs. front_from true text ++ xs) (e ∙ ap (λ x. x ∷ rest) marked.mark) in
        let refused = text_refused (front_from true text) rest (as_ended (front_from true text) marked.begins) in
        let wrong : Ok plan ≡ Err refused.fault = sym is ∙ ap script whole ∙ refused.is in
        absurd (let bad : ⊥ = cc in bad)
