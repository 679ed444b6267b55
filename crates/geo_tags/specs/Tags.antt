-- A live mesh whose requests carry a token of their caller: the tags that wait, and their tokens.
use Rattle.std.specs.Prelude.{◌≡◌, ◌≢◌, ℕ, List, Option, None, cond, count_by, is_some, slice_index_or}
use Rattle.slab.specs.Slab.{Slab}
use Rattle.geo_laws_replies.specs.ReplyLaws.{unanswered}
use Rattle.geo_session.specs.Session.{SessionView}

-- what is seen of it: the live mesh, the token of each tag that has one, and the tag of the next request
pub record TaggedView : Type 0 where
  pub session : SessionView
  pub tokens : List (Option ℕ)
  pub next_tag : ℕ

-- what is seen of a live mesh and a slab of tokens: a tag is a key of the slab
abbrev pub tagged_view : SessionView → Slab ℕ → TaggedView
tagged_view session slab = record { session = session; tokens = slab.slots; next_tag = slab.vacant_key }

-- the token of a tag
abbrev pub token_at : TaggedView → ℕ → Option ℕ
token_at v tag = slice_index_or v.tokens tag None

-- how many tags wait
abbrev pub waiting : TaggedView → ℕ
waiting v = count_by is_some v.tokens

-- how many replies are due to a tag: one where it has a token, and else none
abbrev pub due_replies : TaggedView → ℕ → ℕ
due_replies v tag = cond (is_some (token_at v tag)) 1 0

-- the line of each tag that has a token is unanswered once, and no other line is
abbrev pub EachWaits : TaggedView → Type 0
EachWaits v = (tag : ℕ) → unanswered tag (v.session).world ≡ due_replies v tag

-- a tag has this token now, or none, and each other tag has what it had
pub record Turns (old new : TaggedView) (tag : ℕ) (token : Option ℕ) : Type 0 where
  pub here : token_at new tag ≡ token
  pub others : (other : ℕ) → other ≢ tag → token_at new other ≡ token_at old other

-- all tokens are as before
abbrev pub SameTokens : TaggedView → TaggedView → Type 0
SameTokens old new = new ≡ record old { session = new.session }
