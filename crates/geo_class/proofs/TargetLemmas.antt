-- The pieces of a bio with their consumers.
use Rattle.std.proofs.Common.{filter_map, flat_map, IsSome, ◌≡◌, ℕ, List, [], ◌∷◌, map, Option, Some, None, refl, ap}
use Rattle.std.specs.List.{AllByRecursion}
use Rattle.std.specs.Option.{option_map, option_to_list}
use Rattle.geo_model.specs.declared.span.Piece.{Piece}
use Rattle.geo_model.specs.Bios.{empty_piece}
use Rattle.geo_model.specs.Place.{component, components, pieces}
use Rattle.geo_class.specs.Targets.{AreTargets, FlushesGoThrough, PiecesGoThrough}

-- one empty piece for each consumer
through-each : (consumers : List ℕ)
    → AreTargets (map (λ c. record { consumer = c; piece = empty_piece }) consumers)
    consumers (map (λ c. empty_piece) consumers)
through-each [] = record { consumers = refl; pieces = refl }
through-each (c ∷ cs) =
    let rest = through-each cs in
    record { consumers = ap (λ ns. c ∷ ns) rest.consumers; pieces = ap (λ xs. empty_piece ∷ xs) rest.pieces }

-- a piece whose consumer is there comes first, with it
through-one : (at_place : Piece → Option ℕ) (s : Piece) (list : List Piece) (found : Option ℕ)
    → found ≡ at_place s → IsSome found
    → AreTargets (filter_map (λ x. option_map (λ c. record { consumer = c; piece = x }) (at_place x)) list)
    (flat_map (λ x. option_to_list (at_place x)) list) list
    → AreTargets (filter_map (λ x. option_map (λ c. record { consumer = c; piece = x }) (at_place x)) (s ∷ list))
    (flat_map (λ x. option_to_list (at_place x)) (s ∷ list)) (s ∷ list)
through-one at_place s list (Some c) is there rest =
    rw (← is) (record { consumers = ap (λ ns. c ∷ ns) rest.consumers; pieces = ap (λ xs. s ∷ xs) rest.pieces })
through-one at_place s list None is never rest = let no : ⊥ = cc in absurd no

through-found : (at_place : Piece → Option ℕ) (list : List Piece) → AllByRecursion (λ s. IsSome (at_place s)) list
    → AreTargets (filter_map (λ x. option_map (λ c. record { consumer = c; piece = x }) (at_place x)) list)
    (flat_map (λ x. option_to_list (at_place x)) list) list
through-found at_place [] all = record { consumers = refl; pieces = refl }
through-found at_place (s ∷ list) all =
    through-one at_place s list (at_place s) refl all.0 (through-found at_place list all.1)

pub flushes_go_through : {R : Type 0} → FlushesGoThrough R
flushes_go_through config p x flush = rw flush (through-each (components config))

pub pieces_go_through : {R : Type 0} → PiecesGoThrough R
pieces_go_through config p x other all =
    rw other (through-found (λ s. component config s.child) (pieces config p x.offset x.len) all)
