-- `Worked` has the worked positions of RULES 10, `Exact` that the f64 of a point's whole number is that number itself.
pub mod Worked
pub mod Exact
