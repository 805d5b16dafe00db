-- Each of the ten rules of 23 by marked words that break it, beside words of one other field that break none.
use Rattle.std.specs.Prelude.{ℕ, ◌≡◌, Some}
use Rattle.word.specs.Reader.{read_of}
use Rattle.registers.specs.State.{State}
use Rattle.stops.specs.Rules.{rule_broken}
use Rattle.stops.specs.Stops.{stop_for}

-- a word breaks rule k, and meets 23 in every state
abbrev pub Breaks : ℕ → ℕ → Type 0
Breaks k w = (s : State) → (rule_broken (read_of w) s ≡ k) × (stop_for (Some w) s ≡ 23)

abbrev pub BreaksNone : ℕ → Type 0
BreaksNone w = (s : State) → rule_broken (read_of w) s ≡ 0

-- 1 Rs=15
pub record Rule1 : Type 0 where
  pub rs_15 : Breaks 1 0xE1A00F11  -- MOV R0, R1, LSL R15
  pub rs_14 : BreaksNone 0xE1A00E11  -- MOV R0, R1, LSL R14
  pub rm_15 : BreaksNone 0xE1A0021F  -- MOV R0, R15, LSL R2
  pub rn_and_rd_15 : BreaksNone 0xE08FF211  -- ADD R15, R15, R1, LSL R2
  pub amount : BreaksNone 0xE1A00F01  -- MOV R0, R1, LSL #30: bits 11..8 are 15, and no register
  pub rotation : BreaksNone 0xE3A00F01  -- MOV R0, #4: bits 11..8 are 15, and no register

-- 2 TST to CMN without S
pub record Rule2 : Type 0 where
  pub tst : Breaks 2 0xE1000001  -- TST R0, R1 without S
  pub teq : Breaks 2 0xE1200001
  pub cmp : Breaks 2 0xE1400001
  pub cmn : Breaks 2 0xE1600001
  pub tst_s : BreaksNone 0xE1100001
  pub teq_s : BreaksNone 0xE1300001
  pub cmp_s : BreaksNone 0xE1500001
  pub cmn_s : BreaksNone 0xE1700001
  pub rsc : BreaksNone 0xE0E00001  -- the operation before TST
  pub orr : BreaksNone 0xE1800001  -- the operation after CMN

-- 3 single with base 15 and P=0 or W=1
pub record Rule3 : Type 0 where
  pub post_indexed : Breaks 3 0xE49F0004  -- LDR R0, [R15], #4
  pub written_back : Breaks 3 0xE5BF0004  -- LDR R0, [R15, #4]!
  pub both : Breaks 3 0xE4BF0004  -- LDR R0, [R15], #4 with W
  pub store : Breaks 3 0xE48F0004  -- STR R0, [R15], #4
  pub pre_indexed : BreaksNone 0xE59F0004  -- LDR R0, [R15, #4]
  pub base_14 : BreaksNone 0xE4BE0004  -- LDR R0, [R14], #4 with W
  pub rd_15 : BreaksNone 0xE490F004  -- LDR R15, [R0], #4

-- 4 register offset 15
pub record Rule4 : Type 0 where
  pub load : Breaks 4 0xE791000F  -- LDR R0, [R1, R15]
  pub store : Breaks 4 0xE781000F  -- STR R0, [R1, R15]
  pub shifted : Breaks 4 0xE791010F  -- LDR R0, [R1, R15, LSL #2]
  pub rm_14 : BreaksNone 0xE791000E  -- LDR R0, [R1, R14]
  pub rn_15 : BreaksNone 0xE79F0001  -- LDR R0, [R15, R1]
  pub rd_15 : BreaksNone 0xE791F002  -- LDR R15, [R1, R2]
  pub amount_15 : BreaksNone 0xE7910782  -- LDR R0, [R1, R2, LSL #15]
  pub constant_15 : BreaksNone 0xE591000F  -- LDR R0, [R1, #15]
  pub processing : BreaksNone 0xE081000F  -- ADD R0, R1, R15

-- 5 byte with Rd=15
pub record Rule5 : Type 0 where
  pub load : Breaks 5 0xE5D0F000  -- LDRB R15, [R0]
  pub store : Breaks 5 0xE5C0F000  -- STRB R15, [R0]
  pub rd_14 : BreaksNone 0xE5D0E000  -- LDRB R14, [R0]
  pub rn_15 : BreaksNone 0xE5DF0000  -- LDRB R0, [R15]
  pub word : BreaksNone 0xE590F000  -- LDR R15, [R0]
  pub written_back : BreaksNone 0xE5B0F000  -- LDR R15, [R0]!

-- 6 block with base 15
pub record Rule6 : Type 0 where
  pub load : Breaks 6 0xE89F0001  -- LDMIA R15, {R0}
  pub store : Breaks 6 0xE88F0001  -- STMIA R15, {R0}
  pub written_back : Breaks 6 0xE8BF0001  -- LDMIA R15!, {R0}
  pub down : Breaks 6 0xE91F0001  -- LDMDB R15, {R0}
  pub base_14 : BreaksNone 0xE89E0001  -- LDMIA R14, {R0}
  pub named_15 : BreaksNone 0xE8908000  -- LDMIA R0, {R15}

-- 7 block with S=1
pub record Rule7 : Type 0 where
  pub load : Breaks 7 0xE8D00002  -- LDMIA R0, {R1}^
  pub store : Breaks 7 0xE8C00002  -- STMIA R0, {R1}^
  pub named_15 : Breaks 7 0xE8D08000  -- LDMIA R0, {R15}^
  pub without_s : BreaksNone 0xE8900002  -- LDMIA R0, {R1}
  pub p : BreaksNone 0xE9900002  -- LDMIB R0, {R1}
  pub u : BreaksNone 0xE8100002  -- LDMDA R0, {R1}
  pub w : BreaksNone 0xE8B00002  -- LDMIA R0!, {R1}

-- 8 block with no register
pub record Rule8 : Type 0 where
  pub load : Breaks 8 0xE8900000  -- LDMIA R0, {}
  pub store : Breaks 8 0xE8800000  -- STMIA R0, {}
  pub base_1 : Breaks 8 0xE8910000  -- LDMIA R1, {}
  pub lowest : BreaksNone 0xE8900001  -- LDMIA R0, {R0}
  pub highest : BreaksNone 0xE8908000  -- LDMIA R0, {R15}
  pub several : BreaksNone 0xE8900006  -- LDMIA R0, {R1,R2}

-- 9 multiply with Rd=Rm
pub record Rule9 : Type 0 where
  pub mul : Breaks 9 0xE0010291  -- MUL R1, R1, R2
  pub mla : Breaks 9 0xE0213291  -- MLA R1, R1, R2, R3
  pub with_15 : Breaks 9 0xE00F029F  -- MUL R15, R15, R2
  pub rd_rs : BreaksNone 0xE0020291  -- MUL R2, R1, R2
  pub rd_rn : BreaksNone 0xE0233291  -- MLA R3, R1, R2, R3
  pub rd_unused : BreaksNone 0xE0033291  -- MUL R3, R1, R2, its unused Rn 3
  pub rm_rs : BreaksNone 0xE0000191  -- MUL R0, R1, R1

-- 10 any of the four fields 15
pub record Rule10 : Type 0 where
  pub rd : Breaks 10 0xE00F0291  -- MUL R15, R1, R2
  pub rm : Breaks 10 0xE000029F  -- MUL R0, R15, R2
  pub rs : Breaks 10 0xE0000F91  -- MUL R0, R1, R15
  pub rn : Breaks 10 0xE020F291  -- MLA R0, R1, R2, R15
  pub unused : Breaks 10 0xE000F291  -- MUL R0, R1, R2, its unused Rn 15
  pub with_s : Breaks 10 0xE03F3291  -- MLAS R15, R1, R2, R3
  pub rd_14 : BreaksNone 0xE02EDC9B  -- MLA R14, R11, R12, R13
  pub rn_14 : BreaksNone 0xE02BED9C  -- MLA R11, R12, R13, R14
  pub rs_14 : BreaksNone 0xE02CBE9D  -- MLA R12, R13, R14, R11
  pub rm_14 : BreaksNone 0xE02DCB9E  -- MLA R13, R14, R11, R12

pub record BrokenRules : Type 0 where
  pub one : Rule1
  pub two : Rule2
  pub three : Rule3
  pub four : Rule4
  pub five : Rule5
  pub six : Rule6
  pub seven : Rule7
  pub eight : Rule8
  pub nine : Rule9
  pub ten : Rule10
