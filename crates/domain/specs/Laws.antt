-- Minutes and Posts keep the law of domains.
use Rattle.std.specs.Prelude.{◌≡◌, ℕ, ◌≤◌, true, List, length, nat_le, refl}
use Rattle.std.proofs.Common.{arith, rules}
use Rattle.std.proofs.lemmas.Bool.{and_parts, leb-true}
use Rattle.std.proofs.lemmas.List.Sums.{count_by-le-length}
use Rattle.domain.specs.Meaning.{Lawful}
use Rattle.domain.specs.Minutes.{minutes}
use Rattle.domain.specs.Posts.{posts}
use Rattle.domain.specs.Sizes.{minutes_sized, posts_sized}

pub few_cuts : (limit : ℕ) (cuts : List ℕ) → minutes_sized limit cuts ≡ true → length cuts ≤ 7
few_cuts limit cuts sized = leb-true (length cuts) 7 (and_parts _ _ (and_parts _ _ sized).0).1

pub minutes_lawful : (limit : ℕ) (cuts : List ℕ) → minutes_sized limit cuts ≡ true → Lawful (minutes limit cuts)
minutes_lawful limit cuts sized =
    let few = few_cuts limit cuts sized in
    record {
      some_class = omega arith;
      few_classes = omega arith;
      class_within = λ v. omega (arith, count_by-le-length (λ cut. nat_le cut v) cuts);
      test_zero = λ i j. refl;
    }

pub posts_lawful : (count : ℕ) → posts_sized count ≡ true → Lawful (posts count)
posts_lawful count sized = search rules
