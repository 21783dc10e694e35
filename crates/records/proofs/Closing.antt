-- From a buffer that holds the records of P to the list of P. Assumes nothing.
use mathlib.Core.Path.{◌≡◌, sym, ap, ◌∙◌, subst}
use mathlib.Core.Logic.{◌↔◌}
use mathlib.Core.Bool.{Bool, true}
use mathlib.Core.List.Memᴰ
use mathlib.Core.List.{List, ◌++◌}
use Prim.Native.Nat.{ℕ, ◌*◌, ◌-◌, ◌/◌, ◌≤◌, ◌<◌}
use native.Mathlib.Omega.{arith}
use lib.ListN.{length, replicate, length-replicate}
use Rattle.words.specs.Small.{concat_map}
use Rattle.runs.specs.Listing.{RecordsOf, Listed, Refused, IsListOf}
use Rattle.records.specs.Buffer.{records_in, Among, Held}
use Rattle.records.specs.Growth.{MoreThan, Filled, Joined}
use Rattle.records.proofs.Ascending.{no_longer}
use Rattle.records.proofs.Buffer.{records_length, held_bytes}
use Rattle.records.proofs.Growth.{none_first, more_of}

-- where more than m records pass P, the list of P is longer than m
pub longer_than : {P : List ℕ → Type 0} {m : ℕ} {rs : List (List ℕ)} → RecordsOf P rs → MoreThan m P → m < length rs
longer_than {rs = rs} right x =
    let few : length x.some ≤ length rs = no_longer x.some rs x.sorted right.sorted (λ r m. (right.members r).1 (x.pass r m)) in
    omega (arith, x.many)

module _ {P : List ℕ → Type 0} {C : Type 0} {size : ℕ} {a : Listed} {bytes : List ℕ} where
  -- the buffer holds the records of P
  pub listed : {n : ℕ} → length bytes ≡ size → Held bytes n → ((r : List ℕ) → Among bytes n r ↔ P r) →
      a.code ≡ 0 → a.count ≡ n → (a.cut ≡ true) ↔ C → IsListOf P C size a bytes
  listed {n} len held members code count cut =
      record {
        records = records_in n bytes;
        right = record { sorted = held.sorted; members = members };
        fits = λ _. record { code = code; count = count ∙ sym (records_length n bytes); cut = cut; bytes = row };
        full = λ h. absurd (omega (arith, held.room, records_length n bytes, h));
      }
    where
      row : bytes ≡ concat_map (λ r. r) (records_in n bytes) ++ replicate (size - 96 * length (records_in n bytes)) 0
      row =
          let rest : length bytes - 96 * n ≡ size - 96 * length (records_in n bytes) = omega (arith, records_length n bytes) in
          held_bytes held ∙ ap (λ (k : ℕ). concat_map (λ r. r) (records_in n bytes) ++ replicate k 0) rest

  -- more records of P than fit, and the buffer cleared
  pub unlisted : {rs : List (List ℕ)} → RecordsOf P rs → MoreThan (size / 96) P → Refused 11 size a bytes → IsListOf P C size a bytes
  unlisted {rs} right more refused =
      let long : size / 96 < length rs = longer_than right more in
      record { records = rs; right = right; fits = λ h. absurd (omega arith); full = λ _. refused }

-- what is added to no records is all there is
pub joined-none : (P : List ℕ → Type 0) (bytes r : List ℕ) → Joined bytes 0 P r ↔ P r
unfolding records_in
joined-none P bytes r = none_first Memᴰ.not-nil

-- additions to a cleared buffer
module _ {P : List ℕ → Type 0} (size : ℕ) {zeros : List ℕ} (cleared : zeros ≡ replicate size 0)
    {bytes : List ℕ} {n : ℕ} {full : Bool} (x : Filled (Joined zeros 0 P) zeros bytes n full) where
  length_zeros : length zeros ≡ size
  length_zeros = ap length cleared ∙ length-replicate size 0

  pub filled_size : length bytes ≡ size
  filled_size = x.size ∙ length_zeros

  pub filled_more : full ≡ true → MoreThan (size / 96) P
  filled_more z = more_of (λ r. (joined-none P zeros r).0) (subst (λ (k : ℕ). MoreThan (k / 96) (Joined zeros 0 P)) length_zeros (x.lacks z))
