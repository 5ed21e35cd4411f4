-- The rows of a set-up in their order, as the code tests them, and that its outcome is what the rules say. Assumes nothing.
use Rattle.std.specs.List.{list_all, range_with_len}
use Rattle.std.specs.Prelude.{⊤}
use Rattle.std.proofs.Common.{◌≡◌, ℕ, ◌+◌, ◌*◌, ◌≤◌, ◌<◌, true, false, cond, not, ◌||◌, List, [], ◌∷◌, map, replicate, slice_index, ◌==◌, nat_le, nat_lt, Result, Ok, Err, refl, sym, ap, ◌∙◌, arith}
use borrow.Author.Tests.{lt-ltb, le-ltb, eq-eqb, ne_eqb}
use Rattle.program.specs.declared.envelope.EnvelopeFault.{EnvelopeFault}
use Rattle.program.specs.Envelope.{stated, envelope}
use Rattle.rules.specs.declared.net.Thread.{Thread}
use Rattle.rules.specs.declared.net.Net.{Net}
use Rattle.rules.specs.declared.reply.Refusal.{Refusal}
use Rattle.rules.specs.declared.reply.Refusal.TheVariants as refusal
use Rattle.rules.specs.Rows.{Row, ◌gives◌, no_fields, of_envelope}
use Rattle.rules.specs.Nets.{zero_thread}
use Rattle.rules.specs.Calls.{envelope_rows, controllers_of, trust_byte, policy_byte, set_up_net, coherentb, set_up_rows, set_up_done, set_up, rows_of, done_of, called}
use Rattle.net.specs.Parts.{coherent_in}
use Rattle.net.specs.Checks.{first_row, unless, described}
use Rattle.net.proofs.Effects.{or_else, first_append, refuses, passes, does}
use Rattle.net.proofs.Launches.{envelope_first, envelope_right}

-- the fresh net, of what the bytes say
fresh_of : ℕ → List ℕ → List ℕ → Thread → Net
fresh_of n trust policies free =
    record { n = n; trust = trust; policies = policies; threads = replicate 64 free; places = replicate 3072 0; counter = record { last = 65535 } }

same_net : {n n' : ℕ} {trust trust' policies policies' : List ℕ} {free free' : Thread} → n ≡ n' → trust ≡ trust' → policies ≡ policies' → free ≡ free' →
    fresh_of n trust policies free ≡ fresh_of n' trust' policies' free'
same_net i j k l = rw (i, j, k, l) refl

pub fresh_is : (bytes : List ℕ) {n : ℕ} {trust policies : List ℕ} {free : Thread} → n ≡ slice_index bytes 3 → trust ≡ map (trust_byte bytes n) (range_with_len 0 256) →
    policies ≡ map (policy_byte bytes n) (range_with_len 0 512) → free ≡ zero_thread →
    record { n = n; trust = trust; policies = policies; threads = replicate 64 free; places = replicate 3072 0; counter = record { last = 65535 } } ≡ set_up_net bytes
unfolding set_up_net fresh_of
fresh_is bytes i j k l =
    same_net i (j ∙ ap (λ n. map (trust_byte bytes n) (range_with_len 0 256)) i) (k ∙ ap (λ n. map (policy_byte bytes n) (range_with_len 0 512)) i) l

-- the rows: n is the number of controllers, s and m the lengths, made the fresh net
module _ (bytes : List ℕ) where
  inner : List Row
  inner =
      (nat_lt (controllers_of bytes) 1 || nat_lt 16 (controllers_of bytes)) gives refusal.BadSetUp
      ∷ not (stated bytes == 2 + controllers_of bytes * controllers_of bytes + 32 * controllers_of bytes) gives refusal.BadSetUp
      ∷ not (list_all (λ b. nat_le b 2) (set_up_net bytes).trust) gives refusal.BadSetUp
      ∷ not (coherentb (set_up_net bytes)) gives refusal.NotCoherent
      ∷ []

  abbrev filled : Result ⊤ Refusal → Result Net Refusal
  filled w = unless w (set_up_net bytes)

  in_order : first_row (set_up_rows bytes) ≡ or_else (first_row (envelope_rows (envelope 2 770 bytes))) (first_row inner)
  unfolding inner
  in_order = first_append (envelope_rows (envelope 2 770 bytes)) inner

  pub s_envelope : {f : EnvelopeFault} → envelope 2 770 bytes ≡ Err f → described bytes ≡ Err (of_envelope f)
  unfolding described
  s_envelope h = ap filled (in_order ∙ ap (λ x. or_else x (first_row inner)) (envelope_first (envelope 2 770 bytes) h))

  module _ {u : ⊤} (right : envelope 2 770 bytes ≡ Ok u) {n : ℕ} (j : n ≡ slice_index bytes 3) where
    at_inner : first_row (set_up_rows bytes) ≡ first_row inner
    at_inner = in_order ∙ ap (λ x. or_else x (first_row inner)) (envelope_right (envelope 2 770 bytes) right)

    pub s_none : n < 1 → described bytes ≡ Err refusal.BadSetUp
    unfolding described inner
    s_none h =
        let e : first_row (set_up_rows bytes) ≡ Err refusal.BadSetUp = at_inner ∙ rw (lt-ltb (controllers_of bytes) 1 (omega arith)) refl in
        ap filled e

    module _ (some_n : 1 ≤ n) where
      pub s_many : 16 < n → described bytes ≡ Err refusal.BadSetUp
      unfolding described inner
      s_many h =
          let e : first_row (set_up_rows bytes) ≡ Err refusal.BadSetUp =
          at_inner ∙ rw (le-ltb (controllers_of bytes) 1 (omega arith), lt-ltb 16 (controllers_of bytes) (omega arith)) refl in
          ap filled e

      module _ (few : n ≤ 16) {s m : ℕ} (k : s ≡ stated bytes) (l : m ≡ 2 + n * n + 32 * n) where
        length_for : m ≡ 2 + controllers_of bytes * controllers_of bytes + 32 * controllers_of bytes
        length_for = l ∙ ap (λ n. 2 + n * n + 32 * n) j

        pub s_length : (s ≡ m → ⊥) → described bytes ≡ Err refusal.BadSetUp
        unfolding described inner
        s_length h =
            let e : first_row (set_up_rows bytes) ≡ Err refusal.BadSetUp =
            at_inner ∙ rw (
              le-ltb (controllers_of bytes) 1 (omega arith),
              le-ltb 16 (controllers_of bytes) (omega arith),
              ne_eqb (stated bytes) (2 + controllers_of bytes * controllers_of bytes + 32 * controllers_of bytes) (λ e. h (k ∙ e ∙ sym length_for)),
            ) refl in
            ap filled e

        module _ (long : s ≡ m) {made : Net} (o : made ≡ set_up_net bytes) where
          at_trust : first_row (set_up_rows bytes)
              ≡ cond (not (list_all (λ b. nat_le b 2) made.trust)) (Err refusal.BadSetUp) (cond (not (coherentb (set_up_net bytes))) (Err refusal.NotCoherent) (Ok tt))
          unfolding inner
          at_trust =
              at_inner ∙ rw (
                le-ltb (controllers_of bytes) 1 (omega arith),
                le-ltb 16 (controllers_of bytes) (omega arith),
                eq-eqb (stated bytes) (2 + controllers_of bytes * controllers_of bytes + 32 * controllers_of bytes) (sym k ∙ long ∙ length_for),
                o,
              ) refl

          pub s_trust : list_all (λ b. nat_le b 2) made.trust ≡ false → described bytes ≡ Err refusal.BadSetUp
          unfolding described
          s_trust h =
              let e : first_row (set_up_rows bytes) ≡ Err refusal.BadSetUp = at_trust ∙ rw h refl in
              ap filled e

          module _ (bytes_right : list_all (λ b. nat_le b 2) made.trust ≡ true) where
            coherent_is : coherentb (set_up_net bytes) ≡ coherent_in made.trust n
            unfolding coherentb set_up_net
            coherent_is = rw (o, j) refl

            at_coherence : first_row (set_up_rows bytes) ≡ cond (not (coherent_in made.trust n)) (Err refusal.NotCoherent) (Ok tt)
            at_coherence = at_trust ∙ rw (bytes_right, coherent_is) refl

            pub s_incoherent : coherent_in made.trust n ≡ false → described bytes ≡ Err refusal.NotCoherent
            unfolding described
            s_incoherent h =
                let e : first_row (set_up_rows bytes) ≡ Err refusal.NotCoherent = at_coherence ∙ ap (λ b. cond (not b) (Err refusal.NotCoherent) (Ok tt)) h in
                ap filled e

            pub s_net : coherent_in made.trust n ≡ true → described bytes ≡ Ok made
            unfolding described
            s_net h =
                let e : first_row (set_up_rows bytes) ≡ Ok tt = at_coherence ∙ ap (λ b. cond (not b) (Err refusal.NotCoherent) (Ok tt)) h in
                ap filled e ∙ ap Ok (sym o)

pub ruleset set_ups = (s_envelope, s_none, s_many, s_length, s_trust, s_incoherent, s_net)

-- the outcome, by the net that there is
module _ (net : Net) (bytes : List ℕ) where
  pub p_refuses : {r : Refusal} → described bytes ≡ Err r → called net (set_up bytes) ≡ record { reply = Err r; net = net }
  unfolding described rows_of
  p_refuses h = sym (refuses (set_up_rows bytes) _ refl net (done_of net (set_up bytes)) h)

  pub p_done : {made : Net} → described bytes ≡ Ok made → called net (set_up bytes) ≡ record { reply = Ok no_fields; net = made }
  unfolding described rows_of done_of set_up_done
  p_done h =
      let same = (passes (set_up_rows bytes) _ refl h).1 in
      rw same (sym (does (set_up_rows bytes) _ refl net (set_up_done bytes) h))

pub ruleset set_up_is = (p_refuses, p_done)
