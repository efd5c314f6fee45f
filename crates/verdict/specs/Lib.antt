-- What a verdict is: RULES 6.1 (Order) and 6.2 (Numbers).
pub mod Rules
pub mod Order
