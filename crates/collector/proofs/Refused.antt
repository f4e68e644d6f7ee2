-- Which test of a collect call answers.
use Rattle.laws.proofs.Base.{◌≡◌, true, false, List, ℕ, ◌≤◌, ◌<◌, length, eq-eqb, ne_eqb, lt-ltb, le-ltb}
use Rattle.sizes.specs.Paper.{whole_blocks}
use Rattle.collector.specs.Paper.{page_number, page_total, proper, start, goes_on, with_page, settled, taken, moved, refused_left, collected}

module _ (c p : List ℕ) (n : ℕ) (o : List ℕ) where
  pub collected_length : (length c ≡ 1340 → ⊥) → collected c p n o ≡ refused_left c o 8
  unfolding collected
  collected_length ne = rw (ne_eqb (length c) 1340 ne)

  module _ (long : length c ≡ 1340) where
    pub collected_improper : proper c ≡ false → collected c p n o ≡ refused_left start o 8
    unfolding collected
    collected_improper e = rw (eq-eqb (length c) 1340 long, e)

    module _ (good : proper c ≡ true) where
      pub collected_15 : (length o ≡ 1340 → ⊥) → collected c p n o ≡ refused_left c o 15
      unfolding collected
      collected_15 ne = rw (eq-eqb (length c) 1340 long, good, ne_eqb (length o) 1340 ne)

      module _ (size : length o ≡ 1340) where
        pub collected_16 : (length p ≡ 88 → ⊥) → collected c p n o ≡ refused_left c o 16
        unfolding collected taken
        collected_16 ne = rw (eq-eqb (length c) 1340 long, good, eq-eqb (length o) 1340 size, ne_eqb (length p) 88 ne)

        module _ (page : length p ≡ 88) where
          pub collected_18 : whole_blocks n ≡ false → collected c p n o ≡ refused_left c o 18
          unfolding collected taken
          collected_18 e = rw (eq-eqb (length c) 1340 long, good, eq-eqb (length o) 1340 size, eq-eqb (length p) 88 page, e)

          module _ (blocks : whole_blocks n ≡ true) where
            pub collected_50 : page_total p < page_number p → collected c p n o ≡ refused_left c o 50
            unfolding collected taken
            collected_50 l =
                rw (eq-eqb (length c) 1340 long, good, eq-eqb (length o) 1340 size, eq-eqb (length p) 88 page, blocks, lt-ltb (page_total p) (page_number p) l)

            pub collected_right : page_number p ≤ page_total p → collected c p n o ≡ moved (settled (with_page (goes_on c p) p n)) o
            unfolding collected taken
            collected_right l =
                rw (eq-eqb (length c) 1340 long, good, eq-eqb (length o) 1340 size, eq-eqb (length p) 88 page, blocks, le-ltb (page_total p) (page_number p) l)
