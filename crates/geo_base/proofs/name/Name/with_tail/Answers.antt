use Rattle.std.proofs.Common.{◌≡◌, ◌++◌, List, ℕ, MatchResult, Some, None, rules, subst}
use Rattle.geo_base.specs.Name.{name_of}
use Rattle.geo_base.proofs.NameLemmas.{joined_cells}
use Rattle.geo_base.proofs.name.Name.with_tail.Goals as goal

-- the cells have the name and the tail behind it, so they are judged as the bytes joined
pub returns : goal.returns
returns c =
    let Answers : List ℕ → Type 0 =
    λ bytes. MatchResult c.new.result (λ name. name_of bytes ≡ Some name) (λ _. name_of bytes ≡ None) in
    let front : c.bytes-front.result.now ≡ c.args.self.now = c.bytes-front.ensures.bytes in
    subst (λ bytes. Answers (bytes ++ c.args.tail.now)) front
    (subst Answers (joined_cells c.bytes-front.result.now c.args.tail.now _ c.copy_from_slice.new.self
    c.copy_from_slice-2.new.self _ (search rules) (search rules)) c.new.ensures)
