-- Generated sessions, as they come out of an independent program: four clients, delay 3 and 8 turns, where barracks train walkers.
use Rattle.sim_base.specs.declared.step.Event.TheVariants as event
use Rattle.sim_base.specs.declared.step.Step.TheVariants as step
use Rattle.sim_plain_session.proofs.Common.{Out, pos, quick, refl, Resign, rounds, session, session_events, Setup, setup_of, Step, Stop, Train, u16_bytes}
use Rattle.sim_plain_session.proofs.Common.{[], barracks, block_words, compress, Delete, digest, digest_bytes, first, hash_after, i32_bytes, In, List, md5, mid}
use Rattle.sim_plain_session.proofs.{Common.Waiting, Common.u32_bytes, Common.u64_bytes, Common.walker, Common.ℕ, Common.◌∷◌, Common.◌≡◌, GeneratedPosts.left}

abbrev match : Setup
match =
    record (setup_of
    (185 ∷ 92 ∷ 149 ∷ 34 ∷ 182 ∷ 155 ∷ 102 ∷ 103 ∷ 93 ∷ 36 ∷ 203 ∷ 160 ∷ 36 ∷ 42 ∷ 160 ∷ 55 ∷ [])
    16 (0 ∷ 0 ∷ 0 ∷ 0 ∷ 0 ∷ []) 4 3 (walker ∷ barracks ∷ [])
    (first 1 1 (mid 5 5) ∷ first 1 2 (mid 10 10) ∷ [])) { delay = 3; turns = 8 }

-- ---- the digests that are printed

abbrev digest_0 : List ℕ
digest_0 = 13 ∷ 137 ∷ 177 ∷ 247 ∷ 142 ∷ 39 ∷ 6 ∷ 16 ∷ 69 ∷ 132 ∷ 34 ∷ 198 ∷ 227 ∷ 77 ∷ 124 ∷ 61 ∷ []

abbrev digest_1 : List ℕ
digest_1 = 236 ∷ 66 ∷ 17 ∷ 87 ∷ 46 ∷ 118 ∷ 111 ∷ 190 ∷ 3 ∷ 208 ∷ 52 ∷ 113 ∷ 12 ∷ 104 ∷ 98 ∷ 138 ∷ []

abbrev digest_2 : List ℕ
digest_2 = 16 ∷ 238 ∷ 66 ∷ 177 ∷ 94 ∷ 186 ∷ 174 ∷ 59 ∷ 213 ∷ 182 ∷ 216 ∷ 8 ∷ 117 ∷ 16 ∷ 208 ∷ 212 ∷ []

abbrev digest_3 : List ℕ
digest_3 = 31 ∷ 56 ∷ 155 ∷ 247 ∷ 105 ∷ 122 ∷ 193 ∷ 223 ∷ 160 ∷ 46 ∷ 144 ∷ 77 ∷ 179 ∷ 51 ∷ 4 ∷ 150 ∷ []

abbrev digest_4 : List ℕ
digest_4 = 69 ∷ 189 ∷ 239 ∷ 34 ∷ 255 ∷ 195 ∷ 87 ∷ 48 ∷ 158 ∷ 53 ∷ 158 ∷ 104 ∷ 13 ∷ 231 ∷ 149 ∷ 101 ∷ []

abbrev digest_5 : List ℕ
digest_5 = 116 ∷ 6 ∷ 26 ∷ 143 ∷ 211 ∷ 2 ∷ 214 ∷ 197 ∷ 32 ∷ 112 ∷ 156 ∷ 81 ∷ 69 ∷ 66 ∷ 19 ∷ 135 ∷ []

abbrev digest_6 : List ℕ
digest_6 = 154 ∷ 113 ∷ 246 ∷ 141 ∷ 192 ∷ 33 ∷ 49 ∷ 177 ∷ 203 ∷ 101 ∷ 132 ∷ 174 ∷ 69 ∷ 180 ∷ 42 ∷ 162 ∷ []

abbrev digest_7 : List ℕ
digest_7 = 146 ∷ 238 ∷ 59 ∷ 211 ∷ 229 ∷ 15 ∷ 35 ∷ 234 ∷ 61 ∷ 74 ∷ 101 ∷ 15 ∷ 132 ∷ 76 ∷ 97 ∷ 33 ∷ []

abbrev digest_8 : List ℕ
digest_8 = 237 ∷ 227 ∷ 58 ∷ 64 ∷ 237 ∷ 72 ∷ 189 ∷ 98 ∷ 151 ∷ 218 ∷ 250 ∷ 167 ∷ 47 ∷ 19 ∷ 164 ∷ 165 ∷ []

-- ---- 15 steps

abbrev steps_0 : List Step
steps_0 =
    step.Order 1 (Train 2 1) ∷ step.Play 1 ∷ step.Order 1 (Stop (4 ∷ [])) ∷ step.Cut 4 ∷ step.Order 2 (Train 2 1) ∷ step.Join 4 ∷ step.Up 2 ∷
    step.Play 2 ∷ step.Play 1 ∷ step.Up 4 ∷ step.Up 1 ∷ step.Up 2 ∷ step.Play 2 ∷ step.Down 3 ∷ step.Down 1 ∷ []

events_0 : session_events match 4 steps_0
    ≡ event.Start 1 digest_0 ∷ event.Start 2 digest_0 ∷ event.Start 3 digest_0 ∷ event.Start 4 digest_0 ∷ event.Order 1 4 ∷ event.Play 1 1 digest_1 ∷
    event.Order 1 5 ∷ event.Cut 4 ∷ event.Order 2 4 ∷ event.Join 4 ∷ event.Play 2 1 digest_1 ∷ event.Play 1 2 digest_2 ∷ event.Play 2 2 digest_2 ∷ []
unfolding digest quick u16_bytes u32_bytes u64_bytes i32_bytes block_words rounds compress hash_after digest_bytes md5
events_0 = refl

left_0 : left match (session match 4 steps_0)
    ≡ record {
      statuses = In 3 ∷ In 3 ∷ In 3 ∷ Waiting 1 ∷ [];
      released = 3;
      kept = 0 ∷ 0 ∷ 0 ∷ 2 ∷ 0 ∷ 0 ∷ 0 ∷ 0 ∷ [];
      ups = 5 ∷ 3 ∷ 0 ∷ 0 ∷ [];
      downs = 2 ∷ 2 ∷ 1 ∷ 0 ∷ [];
    }
unfolding digest quick u16_bytes u32_bytes u64_bytes i32_bytes block_words rounds compress hash_after digest_bytes md5
left_0 = refl

-- ---- 22 steps

abbrev steps_1 : List Step
steps_1 =
    step.Play 2 ∷ step.Up 1 ∷ step.Join 4 ∷ step.Up 4 ∷ step.Join 3 ∷ step.Order 2 (Delete (4 ∷ 5 ∷ [])) ∷ step.Up 2 ∷ step.Down 1 ∷ step.Up 3 ∷
    step.Down 1 ∷ step.Up 1 ∷ step.Up 1 ∷ step.Play 1 ∷ step.Up 1 ∷ step.Up 2 ∷ step.Order 2 (Train 3 0) ∷ step.Play 2 ∷ step.Down 3 ∷ step.Down 3 ∷
    step.Down 4 ∷ step.Join 2 ∷ step.Cut 4 ∷ []

events_1 : session_events match 2 steps_1
    ≡ event.Start 1 digest_0 ∷ event.Start 2 digest_0 ∷ event.Play 2 1 digest_1 ∷ event.Join 4 ∷ event.Join 3 ∷ event.Order 2 5 ∷
    event.Play 1 1 digest_1 ∷ event.Order 2 5 ∷ event.Play 2 2 digest_2 ∷ event.Load 3 0 digest_0 ∷ event.Load 4 0 digest_0 ∷ event.Cut 4 ∷ []
unfolding digest quick u16_bytes u32_bytes u64_bytes i32_bytes block_words rounds compress hash_after digest_bytes md5
events_1 = refl

left_1 : left match (session match 2 steps_1)
    ≡ record {
      statuses = In 3 ∷ In 4 ∷ In 3 ∷ Out ∷ [];
      released = 3;
      kept = 0 ∷ 0 ∷ 0 ∷ 0 ∷ 0 ∷ 0 ∷ 0 ∷ 0 ∷ [];
      ups = 1 ∷ 4 ∷ 0 ∷ 0 ∷ [];
      downs = 0 ∷ 0 ∷ 0 ∷ 0 ∷ [];
    }
unfolding digest quick u16_bytes u32_bytes u64_bytes i32_bytes block_words rounds compress hash_after digest_bytes md5
left_1 = refl

-- ---- 29 steps

abbrev steps_2 : List Step
steps_2 =
    step.Join 4 ∷ step.Play 1 ∷ step.Down 1 ∷ step.Join 2 ∷ step.Up 4 ∷ step.Up 1 ∷ step.Up 1 ∷ step.Down 1 ∷ step.Play 1 ∷ step.Up 1 ∷ step.Up 1 ∷
    step.Join 3 ∷ step.Play 1 ∷ step.Down 4 ∷ step.Order 2 (Train 2 0) ∷ step.Up 3 ∷ step.Order 2 Resign ∷ step.Cut 2 ∷ step.Down 1 ∷
    step.Order 4 (Train 2 1) ∷ step.Cut 1 ∷ step.Join 2 ∷ step.Up 4 ∷ step.Down 4 ∷ step.Up 2 ∷ step.Down 4 ∷ step.Order 4 (Delete (4 ∷ 5 ∷ [])) ∷
    step.Up 4 ∷ step.Down 4 ∷ []

events_2 : session_events match 2 steps_2
    ≡ event.Start 1 digest_0 ∷ event.Start 2 digest_0 ∷ event.Join 4 ∷ event.Play 1 1 digest_1 ∷ event.Play 1 2 digest_2 ∷ event.Join 3 ∷
    event.Play 1 3 digest_3 ∷ event.Load 4 1 digest_1 ∷ event.Order 2 4 ∷ event.Order 2 4 ∷ event.Cut 2 ∷ event.Order 4 5 ∷ event.Cut 1 ∷
    event.Join 2 ∷ event.Order 4 5 ∷ []
unfolding digest quick u16_bytes u32_bytes u64_bytes i32_bytes block_words rounds compress hash_after digest_bytes md5
events_2 = refl

left_2 : left match (session match 2 steps_2)
    ≡ record {
      statuses = Out ∷ Waiting 4 ∷ Waiting 4 ∷ In 4 ∷ [];
      released = 4;
      kept = 0 ∷ 0 ∷ 0 ∷ 0 ∷ 2 ∷ 0 ∷ 0 ∷ 0 ∷ [];
      ups = 0 ∷ 0 ∷ 0 ∷ 1 ∷ [];
      downs = 0 ∷ 0 ∷ 0 ∷ 3 ∷ [];
    }
unfolding digest quick u16_bytes u32_bytes u64_bytes i32_bytes block_words rounds compress hash_after digest_bytes md5
left_2 = refl

-- ---- 37 steps

abbrev steps_3 : List Step
steps_3 =
    step.Cut 2 ∷ step.Order 1 (Train 3 0) ∷ step.Join 3 ∷ step.Up 1 ∷ step.Down 1 ∷ step.Join 4 ∷ step.Up 3 ∷ step.Up 4 ∷ step.Down 1 ∷ step.Down 1 ∷
    step.Down 1 ∷ step.Up 1 ∷ step.Up 1 ∷ step.Bend 1 2 (pos 65536) ∷ step.Order 1 (Train 2 1) ∷ step.Play 1 ∷ step.Up 1 ∷ step.Down 1 ∷
    step.Down 3 ∷ step.Play 1 ∷ step.Down 3 ∷ step.Up 3 ∷ step.Down 4 ∷ step.Down 3 ∷ step.Order 1 (Train 3 0) ∷ step.Down 3 ∷ step.Play 3 ∷
    step.Play 1 ∷ step.Play 3 ∷ step.Play 3 ∷ step.Down 4 ∷ step.Order 1 (Train 2 0) ∷ step.Down 4 ∷ step.Up 1 ∷ step.Cut 1 ∷ step.Cut 3 ∷
    step.Join 2 ∷ []

events_3 : session_events match 2 steps_3
    ≡ event.Start 1 digest_0 ∷ event.Start 2 digest_0 ∷ event.Cut 2 ∷ event.Order 1 4 ∷ event.Join 3 ∷ event.Join 4 ∷ event.Order 1 4 ∷
    event.Play 1 1 digest_1 ∷ event.Load 3 0 digest_0 ∷ event.Play 1 2 digest_2 ∷ event.Load 4 0 digest_0 ∷ event.Order 1 6 ∷
    event.Play 3 1 digest_1 ∷ event.Play 1 3 digest_3 ∷ event.Play 3 2 digest_2 ∷ event.Play 3 3 digest_3 ∷ event.Order 1 7 ∷ event.Cut 1 ∷
    event.Cut 3 ∷ event.Join 2 ∷ []
unfolding digest quick u16_bytes u32_bytes u64_bytes i32_bytes block_words rounds compress hash_after digest_bytes md5
events_3 = refl

left_3 : left match (session match 2 steps_3)
    ≡ record {
      statuses = Out ∷ Out ∷ Out ∷ In 3 ∷ [];
      released = 3;
      kept = 0 ∷ 0 ∷ 0 ∷ 2 ∷ 0 ∷ 0 ∷ 0 ∷ 0 ∷ [];
      ups = 0 ∷ 1 ∷ 0 ∷ 0 ∷ [];
      downs = 0 ∷ 0 ∷ 0 ∷ 1 ∷ [];
    }
unfolding digest quick u16_bytes u32_bytes u64_bytes i32_bytes block_words rounds compress hash_after digest_bytes md5
left_3 = refl

-- ---- 44 steps

abbrev steps_4 : List Step
steps_4 =
    step.Down 4 ∷ step.Order 1 Resign ∷ step.Join 3 ∷ step.Play 1 ∷ step.Up 1 ∷ step.Down 1 ∷ step.Order 1 Resign ∷ step.Up 3 ∷ step.Up 1 ∷
    step.Down 1 ∷ step.Down 1 ∷ step.Up 1 ∷ step.Join 4 ∷ step.Join 2 ∷ step.Down 1 ∷ step.Up 1 ∷ step.Up 1 ∷ step.Up 2 ∷ step.Up 4 ∷ step.Play 1 ∷
    step.Down 1 ∷ step.Play 2 ∷ step.Join 2 ∷ step.Down 1 ∷ step.Down 1 ∷ step.Down 4 ∷ step.Up 1 ∷ step.Order 2 Resign ∷ step.Down 3 ∷ step.Cut 3 ∷
    step.Up 1 ∷ step.Play 1 ∷ step.Down 1 ∷ step.Up 1 ∷ step.Up 1 ∷ step.Up 1 ∷ step.Down 2 ∷ step.Play 1 ∷ step.Down 2 ∷ step.Join 4 ∷ step.Down 4 ∷
    step.Down 4 ∷ step.Up 1 ∷ step.Cut 2 ∷ []

events_4 : session_events match 1 steps_4
    ≡ event.Start 1 digest_0 ∷ event.Order 1 4 ∷ event.Join 3 ∷ event.Play 1 1 digest_1 ∷ event.Order 1 5 ∷ event.Join 4 ∷ event.Join 2 ∷
    event.Play 1 2 digest_2 ∷ event.Load 3 1 digest_1 ∷ event.Cut 3 ∷ event.Play 1 3 digest_3 ∷ event.Load 2 2 digest_2 ∷ event.Play 1 4 digest_4 ∷
    event.Load 4 2 digest_2 ∷ event.Cut 2 ∷ []
unfolding digest quick u16_bytes u32_bytes u64_bytes i32_bytes block_words rounds compress hash_after digest_bytes md5
events_4 = refl

left_4 : left match (session match 1 steps_4)
    ≡ record {
      statuses = In 6 ∷ Out ∷ Out ∷ In 5 ∷ [];
      released = 5;
      kept = 0 ∷ 0 ∷ 0 ∷ 1 ∷ 1 ∷ 0 ∷ 0 ∷ 0 ∷ [];
      ups = 2 ∷ 0 ∷ 0 ∷ 0 ∷ [];
      downs = 0 ∷ 0 ∷ 0 ∷ 2 ∷ [];
    }
unfolding digest quick u16_bytes u32_bytes u64_bytes i32_bytes block_words rounds compress hash_after digest_bytes md5
left_4 = refl

-- ---- 51 steps

abbrev steps_5 : List Step
steps_5 =
    step.Play 1 ∷ step.Down 3 ∷ step.Play 1 ∷ step.Join 4 ∷ step.Order 1 (Delete (4 ∷ 5 ∷ [])) ∷ step.Join 2 ∷ step.Up 1 ∷ step.Up 2 ∷ step.Join 3 ∷
    step.Up 4 ∷ step.Play 1 ∷ step.Up 1 ∷ step.Up 3 ∷ step.Down 1 ∷ step.Up 1 ∷ step.Up 1 ∷ step.Down 1 ∷ step.Down 1 ∷ step.Play 1 ∷ step.Up 1 ∷
    step.Play 2 ∷ step.Up 1 ∷ step.Up 1 ∷ step.Down 1 ∷ step.Order 1 (Train 2 0) ∷ step.Order 1 (Delete (4 ∷ 5 ∷ [])) ∷ step.Order 4 (Train 2 1) ∷
    step.Up 1 ∷ step.Up 1 ∷ step.Cut 2 ∷ step.Order 1 (Delete (4 ∷ 5 ∷ [])) ∷ step.Join 2 ∷ step.Down 1 ∷ step.Down 4 ∷ step.Up 1 ∷ step.Down 1 ∷
    step.Cut 2 ∷ step.Play 3 ∷ step.Up 1 ∷ step.Down 4 ∷ step.Up 1 ∷ step.Order 4 Resign ∷ step.Up 1 ∷ step.Up 4 ∷ step.Play 1 ∷ step.Up 1 ∷
    step.Down 4 ∷ step.Up 1 ∷ step.Down 1 ∷ step.Cut 4 ∷ step.Down 3 ∷ []

events_5 : session_events match 1 steps_5
    ≡ event.Start 1 digest_0 ∷ event.Play 1 1 digest_1 ∷ event.Play 1 2 digest_2 ∷ event.Join 4 ∷ event.Order 1 6 ∷ event.Join 2 ∷ event.Join 3 ∷
    event.Play 1 3 digest_3 ∷ event.Play 1 4 digest_5 ∷ event.Order 1 8 ∷ event.Order 1 8 ∷ event.Cut 2 ∷ event.Order 1 8 ∷ event.Join 2 ∷
    event.Load 4 3 digest_3 ∷ event.Cut 2 ∷ event.Order 4 7 ∷ event.Play 1 5 digest_6 ∷ event.Cut 4 ∷ event.Load 3 4 digest_5 ∷ []
unfolding digest quick u16_bytes u32_bytes u64_bytes i32_bytes block_words rounds compress hash_after digest_bytes md5
events_5 = refl

left_5 : left match (session match 1 steps_5)
    ≡ record {
      statuses = In 7 ∷ Out ∷ In 7 ∷ Out ∷ [];
      released = 7;
      kept = 0 ∷ 0 ∷ 0 ∷ 0 ∷ 0 ∷ 1 ∷ 1 ∷ 3 ∷ [];
      ups = 2 ∷ 0 ∷ 0 ∷ 0 ∷ [];
      downs = 5 ∷ 0 ∷ 7 ∷ 0 ∷ [];
    }
unfolding digest quick u16_bytes u32_bytes u64_bytes i32_bytes block_words rounds compress hash_after digest_bytes md5
left_5 = refl

-- ---- 58 steps

abbrev steps_6 : List Step
steps_6 =
    step.Join 3 ∷ step.Up 2 ∷ step.Up 3 ∷ step.Down 1 ∷ step.Down 3 ∷ step.Join 4 ∷ step.Up 4 ∷ step.Down 1 ∷ step.Join 2 ∷ step.Up 2 ∷ step.Down 1 ∷
    step.Play 1 ∷ step.Down 2 ∷ step.Up 1 ∷ step.Down 3 ∷ step.Down 3 ∷ step.Play 3 ∷ step.Order 3 (Stop (4 ∷ [])) ∷ step.Play 3 ∷
    step.Order 3 (Stop (4 ∷ [])) ∷ step.Up 3 ∷ step.Play 3 ∷ step.Order 1 (Train 2 0) ∷ step.Up 1 ∷ step.Up 1 ∷ step.Up 1 ∷ step.Cut 4 ∷ step.Up 1 ∷
    step.Up 4 ∷ step.Up 1 ∷ step.Down 2 ∷ step.Down 3 ∷ step.Down 1 ∷ step.Down 2 ∷ step.Down 2 ∷ step.Join 4 ∷ step.Cut 1 ∷ step.Up 3 ∷ step.Up 4 ∷
    step.Down 2 ∷ step.Order 3 (Train 3 0) ∷ step.Play 2 ∷ step.Order 3 (Delete (4 ∷ 5 ∷ [])) ∷ step.Up 2 ∷ step.Up 2 ∷ step.Up 2 ∷ step.Up 3 ∷
    step.Down 2 ∷ step.Play 3 ∷ step.Up 3 ∷ step.Join 1 ∷ step.Down 4 ∷ step.Order 2 (Train 2 0) ∷ step.Down 4 ∷ step.Order 3 (Delete (4 ∷ 5 ∷ [])) ∷
    step.Down 3 ∷ step.Up 3 ∷ step.Up 2 ∷ []

events_6 : session_events match 1 steps_6
    ≡ event.Start 1 digest_0 ∷ event.Join 3 ∷ event.Join 4 ∷ event.Join 2 ∷ event.Play 1 1 digest_1 ∷ event.Load 3 0 digest_0 ∷
    event.Play 3 1 digest_1 ∷ event.Order 3 5 ∷ event.Play 3 2 digest_2 ∷ event.Order 3 6 ∷ event.Play 3 3 digest_3 ∷ event.Order 1 5 ∷ event.Cut 4 ∷
    event.Load 2 0 digest_0 ∷ event.Join 4 ∷ event.Cut 1 ∷ event.Order 3 7 ∷ event.Play 2 1 digest_1 ∷ event.Order 3 7 ∷ event.Join 1 ∷
    event.Load 4 0 digest_0 ∷ event.Order 2 5 ∷ event.Order 3 7 ∷ []
unfolding digest quick u16_bytes u32_bytes u64_bytes i32_bytes block_words rounds compress hash_after digest_bytes md5
events_6 = refl

left_6 : left match (session match 1 steps_6)
    ≡ record {
      statuses = Out ∷ In 4 ∷ In 5 ∷ In 3 ∷ [];
      released = 3;
      kept = 0 ∷ 0 ∷ 0 ∷ 0 ∷ 3 ∷ 0 ∷ 0 ∷ 0 ∷ [];
      ups = 1 ∷ 0 ∷ 6 ∷ 0 ∷ [];
      downs = 0 ∷ 1 ∷ 1 ∷ 3 ∷ [];
    }
unfolding digest quick u16_bytes u32_bytes u64_bytes i32_bytes block_words rounds compress hash_after digest_bytes md5
left_6 = refl

-- ---- 66 steps

abbrev steps_7 : List Step
steps_7 =
    step.Play 1 ∷ step.Join 2 ∷ step.Up 2 ∷ step.Down 1 ∷ step.Join 3 ∷ step.Join 4 ∷ step.Play 1 ∷ step.Up 1 ∷ step.Up 4 ∷ step.Down 1 ∷ step.Up 3 ∷
    step.Up 1 ∷ step.Down 1 ∷ step.Up 2 ∷ step.Down 1 ∷ step.Play 1 ∷ step.Up 1 ∷ step.Up 1 ∷ step.Down 2 ∷ step.Down 2 ∷ step.Up 1 ∷ step.Play 2 ∷
    step.Play 2 ∷ step.Up 1 ∷ step.Up 1 ∷ step.Up 1 ∷ step.Play 2 ∷ step.Cut 2 ∷ step.Join 2 ∷ step.Down 1 ∷ step.Play 1 ∷ step.Down 3 ∷ step.Cut 3 ∷
    step.Up 1 ∷ step.Down 4 ∷ step.Up 2 ∷ step.Down 4 ∷ step.Up 1 ∷ step.Down 1 ∷ step.Join 3 ∷ step.Up 2 ∷ step.Order 4 (Stop (4 ∷ [])) ∷
    step.Cut 4 ∷ step.Join 4 ∷ step.Down 1 ∷ step.Up 3 ∷ step.Up 1 ∷ step.Up 2 ∷ step.Up 1 ∷ step.Down 1 ∷ step.Down 1 ∷ step.Up 2 ∷ step.Up 4 ∷
    step.Play 1 ∷ step.Up 1 ∷ step.Up 3 ∷ step.Down 2 ∷ step.Down 1 ∷ step.Down 3 ∷ step.Cut 1 ∷ step.Down 3 ∷ step.Down 3 ∷ step.Down 2 ∷
    step.Order 2 (Delete (4 ∷ 5 ∷ [])) ∷ step.Play 3 ∷ step.Order 2 (Train 3 0) ∷ []

events_7 : session_events match 1 steps_7
    ≡ event.Start 1 digest_0 ∷ event.Play 1 1 digest_1 ∷ event.Join 2 ∷ event.Join 3 ∷ event.Join 4 ∷ event.Play 1 2 digest_2 ∷
    event.Play 1 3 digest_3 ∷ event.Load 2 1 digest_1 ∷ event.Play 2 2 digest_2 ∷ event.Play 2 3 digest_3 ∷ event.Play 2 4 digest_5 ∷ event.Cut 2 ∷
    event.Join 2 ∷ event.Play 1 4 digest_5 ∷ event.Load 3 2 digest_2 ∷ event.Cut 3 ∷ event.Load 4 2 digest_2 ∷ event.Join 3 ∷ event.Order 4 6 ∷
    event.Cut 4 ∷ event.Join 4 ∷ event.Play 1 5 digest_6 ∷ event.Load 2 4 digest_5 ∷ event.Load 3 4 digest_5 ∷ event.Cut 1 ∷ event.Order 2 8 ∷
    event.Play 3 5 digest_6 ∷ event.Order 2 8 ∷ []
unfolding digest quick u16_bytes u32_bytes u64_bytes i32_bytes block_words rounds compress hash_after digest_bytes md5
events_7 = refl

left_7 : left match (session match 1 steps_7)
    ≡ record {
      statuses = Out ∷ In 7 ∷ In 7 ∷ Waiting 2 ∷ [];
      released = 7;
      kept = 0 ∷ 0 ∷ 0 ∷ 0 ∷ 0 ∷ 0 ∷ 0 ∷ 0 ∷ [];
      ups = 0 ∷ 2 ∷ 2 ∷ 0 ∷ [];
      downs = 0 ∷ 1 ∷ 0 ∷ 0 ∷ [];
    }
unfolding digest quick u16_bytes u32_bytes u64_bytes i32_bytes block_words rounds compress hash_after digest_bytes md5
left_7 = refl

-- ---- 73 steps

abbrev steps_8 : List Step
steps_8 =
    step.Order 1 (Train 2 0) ∷ step.Up 1 ∷ step.Down 4 ∷ step.Join 3 ∷ step.Order 1 Resign ∷ step.Up 1 ∷ step.Up 3 ∷ step.Down 1 ∷ step.Join 2 ∷
    step.Join 4 ∷ step.Down 1 ∷ step.Play 1 ∷ step.Up 4 ∷ step.Play 2 ∷ step.Down 1 ∷ step.Up 2 ∷ step.Up 1 ∷ step.Down 1 ∷ step.Play 1 ∷
    step.Play 1 ∷ step.Up 1 ∷ step.Down 1 ∷ step.Order 1 (Train 2 0) ∷ step.Up 1 ∷ step.Play 1 ∷ step.Down 1 ∷ step.Up 1 ∷
    step.Order 3 (Stop (4 ∷ [])) ∷ step.Down 4 ∷ step.Up 1 ∷ step.Play 1 ∷ step.Order 4 Resign ∷ step.Down 3 ∷ step.Cut 4 ∷ step.Join 2 ∷
    step.Cut 3 ∷ step.Join 4 ∷ step.Order 4 (Train 2 1) ∷ step.Join 2 ∷ step.Play 2 ∷ step.Up 1 ∷ step.Play 3 ∷ step.Join 3 ∷ step.Up 1 ∷ step.Up 1 ∷
    step.Cut 1 ∷ step.Up 3 ∷ step.Down 3 ∷ step.Down 2 ∷ step.Join 3 ∷ step.Down 2 ∷ step.Up 3 ∷ step.Join 2 ∷ step.Down 3 ∷ step.Join 3 ∷
    step.Down 2 ∷ step.Up 3 ∷ step.Up 2 ∷ step.Up 4 ∷ step.Join 1 ∷ step.Down 2 ∷ step.Down 4 ∷ step.Up 1 ∷ step.Down 1 ∷ step.Join 2 ∷ step.Play 4 ∷
    step.Down 3 ∷ step.Join 3 ∷ step.Up 3 ∷ step.Up 2 ∷ step.Down 2 ∷ step.Join 1 ∷ step.Up 1 ∷ []

events_8 : session_events match 1 steps_8
    ≡ event.Start 1 digest_0 ∷ event.Order 1 4 ∷ event.Join 3 ∷ event.Order 1 4 ∷ event.Join 2 ∷ event.Join 4 ∷ event.Play 1 1 digest_1 ∷
    event.Play 1 2 digest_2 ∷ event.Play 1 3 digest_3 ∷ event.Order 1 7 ∷ event.Load 4 1 digest_1 ∷ event.Play 1 4 digest_7 ∷ event.Order 4 5 ∷
    event.Load 3 1 digest_1 ∷ event.Cut 4 ∷ event.Cut 3 ∷ event.Join 4 ∷ event.Join 3 ∷ event.Cut 1 ∷ event.Refused 3 4 ∷ event.Refused 2 4 ∷
    event.Join 3 ∷ event.Join 2 ∷ event.Refused 3 4 ∷ event.Join 3 ∷ event.Join 1 ∷ event.Refused 2 4 ∷ event.Refused 4 4 ∷ event.Refused 1 4 ∷
    event.Join 2 ∷ event.Refused 3 4 ∷ event.Join 3 ∷ event.Refused 2 4 ∷ event.Join 1 ∷ []
unfolding digest quick u16_bytes u32_bytes u64_bytes i32_bytes block_words rounds compress hash_after digest_bytes md5
events_8 = refl

left_8 : left match (session match 1 steps_8)
    ≡ record {
      statuses = Out ∷ Out ∷ Out ∷ Out ∷ [];
      released = 6;
      kept = 0 ∷ 0 ∷ 0 ∷ 2 ∷ 0 ∷ 0 ∷ 0 ∷ 0 ∷ [];
      ups = 0 ∷ 0 ∷ 0 ∷ 0 ∷ [];
      downs = 1 ∷ 0 ∷ 1 ∷ 0 ∷ [];
    }
unfolding digest quick u16_bytes u32_bytes u64_bytes i32_bytes block_words rounds compress hash_after digest_bytes md5
left_8 = refl

-- ---- 80 steps

abbrev steps_9 : List Step
steps_9 =
    step.Play 1 ∷ step.Up 1 ∷ step.Order 2 (Train 2 0) ∷ step.Join 3 ∷ step.Up 3 ∷ step.Up 1 ∷ step.Down 1 ∷ step.Play 1 ∷ step.Play 1 ∷ step.Up 1 ∷
    step.Join 4 ∷ step.Up 4 ∷ step.Down 3 ∷ step.Down 4 ∷ step.Up 1 ∷ step.Up 1 ∷ step.Down 3 ∷ step.Join 2 ∷ step.Up 2 ∷ step.Order 1 (Train 2 1) ∷
    step.Up 1 ∷ step.Up 1 ∷ step.Down 1 ∷ step.Down 1 ∷ step.Play 3 ∷ step.Up 3 ∷ step.Up 3 ∷ step.Order 1 Resign ∷ step.Play 1 ∷ step.Down 1 ∷
    step.Down 1 ∷ step.Order 3 (Train 2 0) ∷ step.Down 3 ∷ step.Up 3 ∷ step.Down 1 ∷ step.Play 1 ∷ step.Play 3 ∷ step.Up 3 ∷ step.Up 3 ∷ step.Up 1 ∷
    step.Down 3 ∷ step.Down 1 ∷ step.Down 1 ∷ step.Play 1 ∷ step.Play 3 ∷ step.Up 1 ∷ step.Down 4 ∷ step.Cut 3 ∷ step.Up 1 ∷
    step.Order 4 (Stop (4 ∷ [])) ∷ step.Cut 1 ∷ step.Up 4 ∷ step.Down 1 ∷ step.Join 1 ∷ step.Join 4 ∷ step.Up 3 ∷ step.Order 4 (Train 2 1) ∷
    step.Up 1 ∷ step.Cut 4 ∷ step.Join 4 ∷ step.Down 1 ∷ step.Up 4 ∷ step.Down 4 ∷ step.Down 3 ∷ step.Join 4 ∷ step.Up 2 ∷ step.Up 4 ∷ step.Down 4 ∷
    step.Join 4 ∷ step.Join 1 ∷ step.Up 3 ∷ step.Down 2 ∷ step.Up 4 ∷ step.Up 1 ∷ step.Down 4 ∷ step.Down 1 ∷ step.Down 3 ∷ step.Join 2 ∷ step.Up 2 ∷
    step.Down 2 ∷ []

events_9 : session_events match 1 steps_9
    ≡ event.Start 1 digest_0 ∷ event.Play 1 1 digest_1 ∷ event.Join 3 ∷ event.Play 1 2 digest_2 ∷ event.Play 1 3 digest_3 ∷ event.Join 4 ∷
    event.Load 3 1 digest_1 ∷ event.Join 2 ∷ event.Order 1 7 ∷ event.Play 3 2 digest_2 ∷ event.Order 1 7 ∷ event.Play 1 4 digest_5 ∷ event.Order 3 6 ∷
    event.Play 1 5 digest_6 ∷ event.Play 3 3 digest_3 ∷ event.Play 1 6 digest_8 ∷ event.Play 3 4 digest_5 ∷ event.Load 4 3 digest_3 ∷ event.Cut 3 ∷
    event.Order 4 7 ∷ event.Cut 1 ∷ event.Join 1 ∷ event.Order 4 7 ∷ event.Cut 4 ∷ event.Join 4 ∷ event.Refused 1 4 ∷ event.Refused 4 4 ∷
    event.Join 4 ∷ event.Refused 4 4 ∷ event.Join 4 ∷ event.Join 1 ∷ event.Refused 2 4 ∷ event.Refused 4 4 ∷ event.Refused 1 4 ∷ event.Join 2 ∷
    event.Refused 2 4 ∷ []
unfolding digest quick u16_bytes u32_bytes u64_bytes i32_bytes block_words rounds compress hash_after digest_bytes md5
events_9 = refl

left_9 : left match (session match 1 steps_9)
    ≡ record {
      statuses = Out ∷ Out ∷ Out ∷ Out ∷ [];
      released = 6;
      kept = 0 ∷ 0 ∷ 0 ∷ 0 ∷ 0 ∷ 1 ∷ 3 ∷ 0 ∷ [];
      ups = 0 ∷ 0 ∷ 0 ∷ 0 ∷ [];
      downs = 0 ∷ 0 ∷ 0 ∷ 0 ∷ [];
    }
unfolding digest quick u16_bytes u32_bytes u64_bytes i32_bytes block_words rounds compress hash_after digest_bytes md5
left_9 = refl
