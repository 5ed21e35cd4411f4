-- What the rules say of a net, over the part of it that they look at. Definitions only.
use Rattle.std.specs.Prelude.{Option, Some, None, cond, ℕ, ◌+◌, ◌*◌, ◌-◌, Bool, not, ◌&&◌, ◌||◌, List, eqb, leb, ltb, get_or, take, drop}
use Rattle.program.specs.declared.names.Controller.{Controller}
use Rattle.program.specs.Names.{controller}
use Rattle.std.specs.List.{list_all, range_with_len}

-- `in_net` over the number of controllers, `trust` over the trust bytes, `policy_of` over the policies
abbrev pub stands_in : ℕ → Controller → Bool
stands_in n k = leb 16 k.0 && ltb k.0 (16 + n)

abbrev pub trust_in : List ℕ → Controller → Controller → ℕ
trust_in trust k l = get_or trust (16 * (k.0 - 16) + (l.0 - 16)) 0

abbrev pub policy_in : List ℕ → Controller → List ℕ
policy_in policies k = take 32 (drop (32 * (k.0 - 16)) policies)

-- the lowest number of a range that ends before `end`, where there is one
abbrev pub below : ℕ → ℕ → Option ℕ
below end lowest = cond (ltb lowest end) (Some lowest) None

-- `agreesb` over the trust bytes, and `coherentb` over these and the number of controllers: first of one controller, then of all
abbrev pub agrees_in : List ℕ → Controller → Controller → Bool
agrees_in trust k l = not (eqb (trust_in trust k k) 1) || (eqb (trust_in trust k l) 0 || eqb (trust_in trust k l) (trust_in trust l l))

abbrev pub all_agree : List ℕ → ℕ → Controller → Bool
all_agree trust n k = list_all (λ l. agrees_in trust k (controller l)) (range_with_len 16 n)

abbrev pub coherent_in : List ℕ → ℕ → Bool
coherent_in trust n = list_all (λ k. all_agree trust n (controller k)) (range_with_len 16 n)
